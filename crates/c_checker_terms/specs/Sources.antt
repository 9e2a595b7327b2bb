-- The rules of expressions and calls, asked of what the reader made.
use Rattle.std.specs.Prelude.{ℕ, Bool, List, map}
use Rattle.c_syntax.specs.declared.identifier.Identifier.{Identifier}
use Rattle.c_syntax.specs.declared.constant.IntegerType.{IntegerType}
use Rattle.c_syntax.specs.declared.expression.Expression.{Expression}
use Rattle.c_syntax.specs.declared.expression.BinaryOperator.{BinaryOperator}
use Rattle.c_syntax.specs.declared.expression.AssignOperator.{AssignOperator}
use Rattle.c_syntax.specs.Signs.{binary_of}
use Rattle.c_syntax.specs.Views.{expression_tree}
use Rattle.c_program.specs.declared.term.Term.{Term}
use Rattle.c_program.specs.Trees.{TermTree, Conditional}
use Rattle.c_program.specs.Views.{term_tree}
use Rattle.c_checker_rules.specs.declared.errors.CheckError.{CheckError}
use Rattle.c_checker_rules.specs.Names.{Scope, meaning_of}
use Rattle.c_checker_rules.specs.Terms.{term_of, binary_term}
use Rattle.c_checker_rules.specs.Calls.{Functions, called, callee_faults, has_body}

-- what is wrong with a call of this name with so many arguments, its value wanted or dropped
abbrev pub named_faults : Functions → Scope → Bool → Identifier → ℕ → List CheckError
named_faults f scope wanted callee arguments =
    callee_faults (has_body f.bodies callee.name) wanted arguments callee.offset (called f.signatures (meaning_of scope callee))

-- the terms that expressions stand for
abbrev pub terms_of : Scope → List Expression → List TermTree
terms_of scope all = map (term_of scope) (map expression_tree all)

-- one of two terms, by a third
abbrev pub choice_tree : Term → Term → Term → TermTree
choice_tree condition then other = Conditional (term_tree condition) (term_tree then) (term_tree other)

-- an operator on two terms of these types
abbrev pub binary_tree : BinaryOperator → IntegerType → IntegerType → Term → Term → TermTree
binary_tree operator left right a b = binary_term operator left right (term_tree a) (term_tree b)

-- the operator of a compound assignment on a variable and a value of these types
abbrev pub changed_tree : AssignOperator → IntegerType → IntegerType → Term → Term → TermTree
changed_tree operator left right a b = binary_term (binary_of operator) left right (term_tree a) (term_tree b)
