-- What the check of an expression answers: its term and its type, or the first of its faults.
use Rattle.std.specs.Prelude.{◌≡◌, [], Result, MatchResult}
use Rattle.c_syntax.specs.declared.constant.IntegerType.{IntegerType}
use Rattle.c_syntax.specs.declared.identifier.Identifier.{Identifier}
use Rattle.c_syntax.specs.declared.expression.UnaryOperator.{UnaryOperator}
use Rattle.c_syntax.specs.declared.expression.BinaryOperator.{BinaryOperator}
use Rattle.c_syntax.specs.Trees.{ExpressionTree}
use Rattle.c_syntax.specs.Trees as T
use Rattle.c_program.specs.Views.{term_tree}
use Rattle.c_checker_rules.specs.declared.errors.CheckError.{CheckError}
use Rattle.c_checker_rules.specs.Names.{Scope}
use Rattle.c_checker_rules.specs.Told.{Tells}
use Rattle.c_checker_rules.specs.Types.{type_of}
use Rattle.c_checker_rules.specs.Terms.{term_of}
use Rattle.c_checker_rules.specs.Expressions.{expression_faults}
use Rattle.c_checker_terms.specs.declared.typed.Typed.{Typed}

abbrev pub Answer : Type 0
Answer = Result Typed CheckError

-- an expression without faults, with its type and its term
abbrev pub IsChecked : Scope → ExpressionTree → Typed → Type 0
IsChecked scope e t = (expression_faults scope e ≡ []) × (t.kind ≡ type_of scope e) × (term_tree t.term ≡ term_of scope e)

abbrev pub Checks : Scope → ExpressionTree → Answer → Type 0
Checks scope e answer = MatchResult answer (IsChecked scope e) (λ fault. Tells fault (expression_faults scope e))

-- What answers for an expression, given the answers for its parts.
abbrev pub ChecksElement : Scope → Identifier → Answer → Answer → Type 0
ChecksElement scope name index whole = (e : ExpressionTree) → Checks scope e index → Checks scope (T.Element name e) whole

abbrev pub ChecksCast : IntegerType → Answer → Answer → Type 0
ChecksCast kind operand whole = (scope : Scope) (e : ExpressionTree) → Checks scope e operand → Checks scope (T.Cast kind e) whole

abbrev pub ChecksUnary : UnaryOperator → Answer → Answer → Type 0
ChecksUnary o operand whole = (scope : Scope) (e : ExpressionTree) → Checks scope e operand → Checks scope (T.Unary o e) whole

abbrev pub ChecksBinary : BinaryOperator → Answer → Answer → Answer → Type 0
ChecksBinary o left right whole =
    (scope : Scope) (a b : ExpressionTree) → Checks scope a left → Checks scope b right → Checks scope (T.Binary o a b) whole

abbrev pub ChecksConditional : Answer → Answer → Answer → Answer → Type 0
ChecksConditional condition left right whole =
    (scope : Scope) (c a b : ExpressionTree) → Checks scope c condition → Checks scope a left → Checks scope b right
    → Checks scope (T.Conditional c a b) whole
