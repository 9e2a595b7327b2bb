-- What is not well formed in an expression, in the order of the text (C99 6.5.1, 6.5.2.1).
use Rattle.std.specs.Prelude.{ℕ, List, [], ◌∷◌, ◌++◌, Option, Some, None}
use Rattle.c_syntax.specs.Trees.{ExpressionTree}
use Rattle.c_syntax.specs.Trees as T
use Rattle.c_checker_rules.specs.declared.errors.CheckError.{CheckError}
use Rattle.c_checker_rules.specs.declared.errors.CheckError.TheVariants.{Undeclared, ArrayUse}
use Rattle.c_checker_rules.specs.declared.meaning.Meaning.{Meaning}
use Rattle.c_checker_rules.specs.declared.meaning.Meaning.TheVariants as M
use Rattle.c_checker_rules.specs.Names.{Scope, meaning_of}

-- a name that stands for a variable without size
abbrev pub variable_faults : Option Meaning → ℕ → List CheckError
variable_faults None at = Undeclared at ∷ []
variable_faults (Some (M.Local n t)) at = []
variable_faults (Some (M.Variable n t)) at = []
variable_faults (Some (M.Array n t)) at = ArrayUse at ∷ []
variable_faults (Some (M.Function n)) at = Undeclared at ∷ []

-- a name with an index
abbrev pub array_faults : Option Meaning → ℕ → List CheckError
array_faults None at = Undeclared at ∷ []
array_faults (Some (M.Local n t)) at = ArrayUse at ∷ []
array_faults (Some (M.Variable n t)) at = ArrayUse at ∷ []
array_faults (Some (M.Array n t)) at = []
array_faults (Some (M.Function n)) at = Undeclared at ∷ []

abbrev pub expression_faults : Scope → ExpressionTree → List CheckError
expression_faults scope (T.Number c) = []
expression_faults scope (T.Variable x) = variable_faults (meaning_of scope x) x.offset
expression_faults scope (T.Element a e) = array_faults (meaning_of scope a) a.offset ++ expression_faults scope e
expression_faults scope (T.Parenthesis e) = expression_faults scope e
expression_faults scope (T.Cast t e) = expression_faults scope e
expression_faults scope (T.Unary o e) = expression_faults scope e
expression_faults scope (T.Binary o a b) = expression_faults scope a ++ expression_faults scope b
expression_faults scope (T.Conditional c a b) = expression_faults scope c ++ expression_faults scope a ++ expression_faults scope b
