-- The bytes of a function of Cminor.
use Rattle.std.specs.Prelude.{ℕ, List, [], ◌∷◌, ◌++◌, Option}
use Rattle.std.specs.Int.{w16, w32, to_be_bytes}
use Rattle.std.specs.List.{flat_map}
use Rattle.lang_base.specs.Texts.{optional_text, counted_text}
use Rattle.ints.specs.Codes.{code_of}
use Rattle.machine.specs.Spelling.{byte_text}
use Rattle.cminor_syntax.specs.Trees.{ExpressionTree, StatementTree, StatementsTree, FunctionTree, Number, Variable, Load, Unary, Binary, Choice, Skip, Assign, Store, Call, Put, Sequence, If, Loop, Block, Exit, Return, Done, First}
use Rattle.cminor_syntax.specs.Fits.{statement_count}

-- a code, and what follows it
abbrev pub expression_text : ExpressionTree → List ℕ
expression_text (Number w) = 0 ∷ to_be_bytes w32 w
expression_text (Variable v) = 1 ∷ to_be_bytes w16 v
expression_text (Load g i) = 2 ∷ (to_be_bytes w16 g ++ expression_text i)
expression_text (Unary o e) = 3 ∷ (code_of o ∷ expression_text e)
expression_text (Binary o a b) = 3 ∷ (code_of o ∷ (expression_text a ++ expression_text b))
expression_text (Choice c a b) = 4 ∷ (expression_text c ++ (expression_text a ++ expression_text b))

-- the variable that gets a result, if there is one
abbrev pub target_text : Option ℕ → List ℕ
target_text target = optional_text (to_be_bytes w16) target

abbrev pub arguments_text : List ExpressionTree → List ℕ
arguments_text arguments = counted_text byte_text expression_text arguments

abbrev mutual
  pub statement_text : StatementTree → List ℕ
  statement_text Skip = 0 ∷ []
  statement_text (Assign v e) = 1 ∷ (to_be_bytes w16 v ++ expression_text e)
  statement_text (Store g i e) = 2 ∷ (to_be_bytes w16 g ++ (expression_text i ++ expression_text e))
  statement_text (Call f target arguments) = 3 ∷ (f ∷ (target_text target ++ arguments_text arguments))
  statement_text (Put target e) = 4 ∷ (target_text target ++ expression_text e)
  statement_text (Sequence ss) = 5 ∷ (to_be_bytes w32 (statement_count ss) ++ statements_text ss)
  statement_text (If e s t) = 6 ∷ (expression_text e ++ (statement_text s ++ statement_text t))
  statement_text (Loop s) = 7 ∷ statement_text s
  statement_text (Block s) = 8 ∷ statement_text s
  statement_text (Exit n) = 9 ∷ to_be_bytes w16 n
  statement_text (Return e) = 10 ∷ optional_text expression_text e

  pub statements_text : StatementsTree → List ℕ
  statements_text Done = []
  statements_text (First s rest) = statement_text s ++ statements_text rest

-- the first byte of a function of Cminor
abbrev pub tag : ℕ
tag = 1

-- the numbers of parameters and of variables
abbrev pub frame_text : ℕ × ℕ → List ℕ
frame_text frame = byte_text frame.0 ++ to_be_bytes w16 frame.1

-- the tag, those numbers, and the body
abbrev pub spelling : FunctionTree → List ℕ
spelling f = tag ∷ (frame_text (f.parameters, f.variables) ++ statement_text f.body)
