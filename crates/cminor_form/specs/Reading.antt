-- How a function of Cminor is read. A reading with some fuel reads trees that are at most so high.
use Rattle.std.specs.Prelude.{ℕ, zero, suc, List, [], ◌∷◌, Option, Result, Ok, Err, nat_le, ◌==◌, if◌then◌else◌}
use Rattle.std.specs.Int.{w16, w32}
use Rattle.lang_base.specs.declared.errors.FormError.{FormError}
use Rattle.lang_base.specs.declared.errors.FormError.TheVariants.{NotCanonical, TooLarge}
use Rattle.lang_base.specs.Reading.{Reading, ◌>>=◌, byte, number, made, tested, decoded, below, up_to, both, counted, Table, follow, unknown, coded, optional, tagged}
use Rattle.lang_helpers.specs.Limits.{global, function_number}
use Rattle.ints.specs.declared.operators.Op.{Op}
use Rattle.ints.specs.Codes.{op_of_code, argument_count_of}
use Rattle.machine.specs.Fits.{parameter_limit}
use Rattle.cminor_syntax.specs.Trees.{ExpressionTree, StatementTree, StatementsTree, FunctionTree, Number, Variable, Load, Unary, Binary, Choice, Skip, Assign, Store, Call, Put, Sequence, If, Loop, Block, Exit, Return, Done, First}
use Rattle.cminor_syntax.specs.Views.{expression_tree, statement_tree}
use Rattle.cminor_syntax.specs.Fits.{variable_limit, height_limit}
use Rattle.cminor_syntax.specs.declared.expression.Expression.{Expression}
use Rattle.cminor_syntax.specs.declared.statement.Statement.{Statement}

-- the expression that a `return` gives, or none
abbrev pub expression_of : Result Expression FormError → Result ExpressionTree FormError
expression_of (Ok e) = Ok (expression_tree e)
expression_of (Err fault) = Err fault

abbrev pub statement_of : Result Statement FormError → Result StatementTree FormError
statement_of (Ok s) = Ok (statement_tree s)
statement_of (Err fault) = Err fault

-- a node that would be too high, whatever it is
unfoldable pub too_high : {A : Type 0} → Reading A
too_high bytes = byte bytes >>= λ code. Err TooLarge

-- one of so many variables
unfoldable pub variable : ℕ → Reading ℕ
variable variables bytes = below variables (number w16) bytes

-- the variable that gets a result, if there is one
unfoldable pub target : ℕ → Reading (Option ℕ)
target variables bytes = optional (variable variables) bytes

-- ---- expressions, where `part` reads their parts

unfoldable pub load : Reading ExpressionTree → Reading ExpressionTree
load part bytes = made (λ p. Load p.0 p.1) (both global (λ g. part)) bytes

-- as many operands as an operator takes
pub data Operands : Type 0 where
  One : (e : ExpressionTree) → Operands
  Two : (a b : ExpressionTree) → Operands

abbrev pub operands : ℕ → Reading ExpressionTree → Reading Operands
operands count part bytes = if count == 1 then made (λ e. One e) part bytes else made (λ p. Two p.0 p.1) (both part (λ a. part)) bytes

abbrev pub applied : Op → Operands → ExpressionTree
applied o (One e) = Unary o e
applied o (Two a b) = Binary o a b

unfoldable pub operation : Reading ExpressionTree → Reading ExpressionTree
operation part bytes = made (λ p. applied p.0 p.1) (both (decoded op_of_code byte) (λ o. operands (argument_count_of o) part)) bytes

unfoldable pub choice : Reading ExpressionTree → Reading ExpressionTree
choice part bytes = made (λ p. Choice p.0 p.1.0 p.1.1) (both part (λ c. both part (λ a. part))) bytes

abbrev pub expressions : ℕ → Reading ExpressionTree → Table ExpressionTree
expressions variables part =
    (0, made (λ w. Number w) (number w32)) ∷
    (1, made (λ v. Variable v) (variable variables)) ∷
    (2, load part) ∷
    (3, operation part) ∷
    (4, choice part) ∷ []

unfoldable pub expression_by_code : ℕ → Reading ExpressionTree → Reading ExpressionTree
expression_by_code variables part bytes = coded (follow (expressions variables part) unknown) bytes

unfoldable pub expression : (fuel variables : ℕ) → Reading ExpressionTree
expression zero variables bytes = too_high bytes
expression (suc fuel) variables bytes = expression_by_code variables (expression fuel variables) bytes

-- ---- statements without statements in them, where `part` reads their expressions

abbrev pub skip : Reading StatementTree
skip bytes = Ok (Skip, bytes)

unfoldable pub assign : ℕ → Reading ExpressionTree → Reading StatementTree
assign variables part bytes = made (λ p. Assign p.0 p.1) (both (variable variables) (λ v. part)) bytes

unfoldable pub store : Reading ExpressionTree → Reading StatementTree
store part bytes = made (λ p. Store p.0 p.1.0 p.1.1) (both global (λ g. both part (λ i. part))) bytes

unfoldable pub arguments : Reading ExpressionTree → Reading (List ExpressionTree)
arguments part bytes = counted byte (λ before. part) bytes

unfoldable pub call : ℕ → Reading ExpressionTree → Reading StatementTree
call variables part bytes = made (λ p. Call p.0 p.1.0 p.1.1) (both function_number (λ f. both (target variables) (λ t. arguments part))) bytes

unfoldable pub put : ℕ → Reading ExpressionTree → Reading StatementTree
put variables part bytes = made (λ p. Put p.0 p.1) (both (target variables) (λ t. part)) bytes

unfoldable pub read_result : Reading ExpressionTree → Reading (Option ExpressionTree)
read_result part bytes = optional part bytes

abbrev pub plain_statements : ℕ → Reading ExpressionTree → Table StatementTree
plain_statements variables part =
    (0, skip) ∷
    (1, assign variables part) ∷
    (2, store part) ∷
    (3, call variables part) ∷
    (4, put variables part) ∷
    (9, made (λ n. Exit n) (number w16)) ∷
    (10, made (λ e. Return e) (read_result part)) ∷ []

unfoldable pub plain_statement : ℕ → Reading ExpressionTree → ℕ → Reading StatementTree
plain_statement variables part code bytes = follow (plain_statements variables part) unknown code bytes

-- ---- the other statements, where `inner` reads the statements in them

abbrev pub sequence_of : List StatementTree → StatementsTree
sequence_of [] = Done
sequence_of (s ∷ rest) = First s (sequence_of rest)

unfoldable pub sequence : Reading StatementTree → Reading StatementTree
sequence inner bytes = made (λ ss. Sequence (sequence_of ss)) (counted (number w32) (λ before. inner)) bytes

unfoldable pub branch : Reading ExpressionTree → Reading StatementTree → Reading StatementTree
branch part inner bytes = made (λ p. If p.0 p.1.0 p.1.1) (both part (λ e. both inner (λ s. inner))) bytes

abbrev pub statements : Reading ExpressionTree → Reading StatementTree → Table StatementTree
statements part inner =
    (5, sequence inner) ∷
    (6, branch part inner) ∷
    (7, made (λ s. Loop s) inner) ∷
    (8, made (λ s. Block s) inner) ∷ []

unfoldable pub statement_by_code : ℕ → Reading ExpressionTree → Reading StatementTree → Reading StatementTree
statement_by_code variables part inner bytes = coded (follow (statements part inner) (plain_statement variables part)) bytes

unfoldable pub statement : (fuel variables : ℕ) → Reading StatementTree
statement zero variables bytes = too_high bytes
statement (suc fuel) variables bytes = statement_by_code variables (expression fuel variables) (statement fuel variables) bytes

-- ---- the function

-- the numbers of parameters and of variables, of which they are the first
unfoldable pub frame : Reading (ℕ × ℕ)
frame bytes = tested (λ f. nat_le f.1 variable_limit) TooLarge (tested (λ f. nat_le f.0 f.1) NotCanonical (both (up_to parameter_limit byte) (λ p. number w16))) bytes

-- what stands behind the tag
unfoldable pub parts : Reading ((ℕ × ℕ) × StatementTree)
parts bytes = both frame (λ f. statement height_limit f.1) bytes

unfoldable pub function : Reading FunctionTree
function bytes = tagged 1 (made (λ p. record { parameters = p.0.0; variables = p.0.1; body = p.1 }) parts) bytes
