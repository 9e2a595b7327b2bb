-- The first bytes of expressions and statements, and what follows those of two statements.
use Rattle.std.specs.Prelude.{ℕ, List, ◌∷◌, ◌++◌, Option}
use Rattle.std.specs.Int.{w16, to_be_bytes}
use Rattle.cminor_syntax.specs.Trees.{ExpressionTree, StatementTree, Number, Variable, Load, Unary, Binary, Choice, Skip, Assign, Store, Call, Put, Sequence, If, Loop, Block, Exit, Return}
use Rattle.cminor_form.specs.Spelling.{expression_text, target_text, arguments_text}

abbrev pub expression_code : ExpressionTree → ℕ
expression_code (Number w) = 0
expression_code (Variable v) = 1
expression_code (Load g i) = 2
expression_code (Unary o e) = 3
expression_code (Binary o a b) = 3
expression_code (Choice c a b) = 4

abbrev pub statement_code : StatementTree → ℕ
statement_code Skip = 0
statement_code (Assign v e) = 1
statement_code (Store g i e) = 2
statement_code (Call f target arguments) = 3
statement_code (Put target e) = 4
statement_code (Sequence ss) = 5
statement_code (If e s t) = 6
statement_code (Loop s) = 7
statement_code (Block s) = 8
statement_code (Exit n) = 9
statement_code (Return e) = 10

-- a global, the index of a cell, and the word that it becomes
abbrev pub store_text : ℕ → ExpressionTree → ExpressionTree → List ℕ
store_text g i e = to_be_bytes w16 g ++ (expression_text i ++ expression_text e)

-- a function, the variable that gets its result, and the arguments
abbrev pub call_text : ℕ → Option ℕ → List ExpressionTree → List ℕ
call_text f target arguments = f ∷ (target_text target ++ arguments_text arguments)
