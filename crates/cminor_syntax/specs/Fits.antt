-- Which functions of Cminor are in range, and how high a tree is: a leaf is 1, and every other node one more
-- than its highest part.
use Rattle.std.specs.Prelude.{◌≡◌, ℕ, suc, ◌<◌, ◌≤◌, ◌^◌, List, [], ◌∷◌, length, Option, Some, None, max}
use Rattle.std.specs.List.{AllByRecursion}
use Rattle.machine.specs.Codes.{argument_count_of}
use Rattle.machine.specs.Fits.{parameter_limit}
use Rattle.cminor_syntax.specs.Trees.{ExpressionTree, StatementTree, StatementsTree, FunctionTree, Number, Variable, Load, Unary, Binary, Choice, Skip, Assign, Store, Call, Put, Sequence, If, Loop, Block, Exit, Return, Done, First}
pub use Rattle.machine.specs.Limits.{global_limit, function_limit}

-- the limits of a function
abbrev pub variable_limit : ℕ
variable_limit = 512

abbrev pub height_limit : ℕ
height_limit = 1000

-- an expression among so many variables
abbrev pub ExpressionFits : ℕ → ExpressionTree → Type 0
ExpressionFits variables (Number w) = w < 2 ^ 32
ExpressionFits variables (Variable v) = v < variables
ExpressionFits variables (Load g i) = (g < global_limit) × ExpressionFits variables i
ExpressionFits variables (Unary o e) = (argument_count_of o ≡ 1) × ExpressionFits variables e
ExpressionFits variables (Binary o a b) = (argument_count_of o ≡ 2) × (ExpressionFits variables a × ExpressionFits variables b)
ExpressionFits variables (Choice c a b) = ExpressionFits variables c × (ExpressionFits variables a × ExpressionFits variables b)

-- a part that may be missing
abbrev pub MaybeFits : {A : Type 0} → (A → Type 0) → Option A → Type 0
MaybeFits Fits None = Unit {0}
MaybeFits Fits (Some x) = Fits x

-- a variable that gets a result, if one is named
abbrev pub TargetFits : ℕ → Option ℕ → Type 0
TargetFits variables target = MaybeFits (λ v. v < variables) target

-- the number of statements of a sequence
abbrev pub statement_count : StatementsTree → ℕ
statement_count Done = 0
statement_count (First s rest) = suc (statement_count rest)

-- a statement among so many variables
abbrev mutual
  pub StatementFits : ℕ → StatementTree → Type 0
  StatementFits variables Skip = Unit {0}
  StatementFits variables (Assign v e) = (v < variables) × ExpressionFits variables e
  StatementFits variables (Store g i e) = (g < global_limit) × (ExpressionFits variables i × ExpressionFits variables e)
  StatementFits variables (Call f target arguments) =
      (f < function_limit) × (TargetFits variables target × ((length arguments < 256) × AllByRecursion (ExpressionFits variables) arguments))
  StatementFits variables (Put target e) = TargetFits variables target × ExpressionFits variables e
  StatementFits variables (Sequence ss) = (statement_count ss < 2 ^ 32) × StatementsFit variables ss
  StatementFits variables (If e s t) = ExpressionFits variables e × (StatementFits variables s × StatementFits variables t)
  StatementFits variables (Loop s) = StatementFits variables s
  StatementFits variables (Block s) = StatementFits variables s
  StatementFits variables (Exit n) = n < 2 ^ 16
  StatementFits variables (Return e) = MaybeFits (ExpressionFits variables) e

  pub StatementsFit : ℕ → StatementsTree → Type 0
  StatementsFit variables Done = Unit {0}
  StatementsFit variables (First s rest) = StatementFits variables s × StatementsFit variables rest

abbrev pub expression_height : ExpressionTree → ℕ
expression_height (Number w) = 1
expression_height (Variable v) = 1
expression_height (Load g i) = suc (expression_height i)
expression_height (Unary o e) = suc (expression_height e)
expression_height (Binary o a b) = suc (max (expression_height a) (expression_height b))
expression_height (Choice c a b) = suc (max (expression_height c) (max (expression_height a) (expression_height b)))

-- the highest of some, 0 where there are none
abbrev pub arguments_height : List ExpressionTree → ℕ
arguments_height [] = 0
arguments_height (e ∷ es) = max (expression_height e) (arguments_height es)

abbrev pub maybe_height : Option ExpressionTree → ℕ
maybe_height None = 0
maybe_height (Some e) = expression_height e

abbrev mutual
  pub statement_height : StatementTree → ℕ
  statement_height Skip = 1
  statement_height (Assign v e) = suc (expression_height e)
  statement_height (Store g i e) = suc (max (expression_height i) (expression_height e))
  statement_height (Call f target arguments) = suc (arguments_height arguments)
  statement_height (Put target e) = suc (expression_height e)
  statement_height (Sequence ss) = suc (statements_height ss)
  statement_height (If e s t) = suc (max (expression_height e) (max (statement_height s) (statement_height t)))
  statement_height (Loop s) = suc (statement_height s)
  statement_height (Block s) = suc (statement_height s)
  statement_height (Exit n) = 1
  statement_height (Return e) = suc (maybe_height e)

  pub statements_height : StatementsTree → ℕ
  statements_height Done = 0
  statements_height (First s rest) = max (statement_height s) (statements_height rest)

-- every part is in range
pub record IsFunction (f : FunctionTree) : Type 0 where
  pub parameters : f.parameters ≤ parameter_limit
  pub within : f.parameters ≤ f.variables
  pub variables : f.variables ≤ variable_limit
  pub body : StatementFits f.variables f.body
  pub low : statement_height f.body ≤ height_limit
