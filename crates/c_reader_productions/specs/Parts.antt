-- How the parts of statements are read that are no statements: calls, values, lvalues and the like. The number is
-- the fuel: a tree that is higher is not read.
use Rattle.std.specs.Prelude.{ℕ, zero, suc, Bool, false, List, [], ◌∷◌, Option, Result, Ok, Err, ◌&&◌, if◌then◌else◌}
use Rattle.c_syntax.specs.declared.punctuator.Punctuator.TheVariants.{LeftParenthesis, RightParenthesis, LeftBracket, RightBracket, Semicolon, Assign}
use Rattle.c_syntax.specs.declared.token.Token.{Token}
use Rattle.c_syntax.specs.declared.identifier.Identifier.{Identifier}
use Rattle.c_syntax.specs.Trees.{ExpressionTree, CallTree, ValueTree, LvalueTree, ChangeTree, SetTree, LocalTree, StartTree}
use Rattle.c_syntax.specs.Trees as T
use Rattle.c_syntax.specs.Statements.{one}
use Rattle.c_reader_tokens.specs.declared.fault.Fault.{Fault}
use Rattle.c_reader_tokens.specs.declared.fault.Fault.TheVariants.{TooDeep}
use Rattle.c_reader_tokens.specs.Reading.{Reading, ◌>>=◌}
use Rattle.c_reader_tokens.specs.Peeking.{is_name, is_sign_next, is_type_next, is_call_next}
use Rattle.c_reader_tokens.specs.Tokens.{sign, placed_name, integer_type}
use Rattle.c_reader_tokens.specs.Assigning.{step_operator, is_step_next}
use Rattle.c_reader_expression_laws.specs.Reading.{expression_at}
use Rattle.c_reader_productions.specs.Combining.{◌▷◌, ◌◁◌, ◌&◌, made, either, missing, there, commas}
use Rattle.c_reader_productions.specs.Deeds.{Deed, Becomes, Changes, deed, changing}

-- one less fuel, for the parts of something
unfoldable pub less : ℕ → Result ℕ Fault
less zero = Err TooDeep
less (suc fuel) = Ok fuel

-- what is one higher than its parts
abbrev pub under : {A : Type 0} → (ℕ → Reading A) → ℕ → Reading A
under parts fuel ts = do
  r ← less fuel
  parts r ts

unfoldable pub name : ℕ → Reading Identifier
name fuel ts = under (λ r. placed_name) fuel ts

unfoldable pub arguments : ℕ → Reading (List ExpressionTree)
arguments fuel ts = if is_sign_next RightParenthesis ts then Ok ([], ts) else commas (expression_at fuel 0) ts

unfoldable pub call : ℕ → Reading CallTree
call fuel ts = under (λ r. made (λ v. record { callee = v.0; arguments = v.1 })
    (name r & sign LeftParenthesis ▷ arguments r ◁ sign RightParenthesis)) fuel ts

unfoldable pub value : ℕ → Reading ValueTree
value fuel ts = either is_call_next (made (λ c. T.Called c) (call fuel)) (made (λ e. T.Plain e) (expression_at fuel 0)) ts

-- a cell begins with a name and `[`
abbrev pub is_cell_next : List Token → Bool
is_cell_next [] = false
is_cell_next (t ∷ ts) = is_name t.kind && is_sign_next LeftBracket ts

unfoldable pub cell : ℕ → Reading (Identifier × ExpressionTree)
cell fuel ts = under (λ r. name r & sign LeftBracket ▷ expression_at r 0 ◁ sign RightBracket) fuel ts

unfoldable pub lvalue : ℕ → Reading LvalueTree
lvalue fuel ts = either is_cell_next (made (λ v. T.Cell v.0 v.1) (cell fuel)) (made (λ x. T.Name x) (name fuel)) ts

-- `++` or `--` before an lvalue
unfoldable pub prefixed : ℕ → Reading ChangeTree
prefixed fuel ts = made (λ v. record { lvalue = v.1; operator = v.0; value = one }) (step_operator & lvalue fuel) ts

-- an lvalue, and what a `for` does to it
abbrev pub set_of : LvalueTree → Deed ExpressionTree → SetTree
set_of l (Becomes e) = T.Becomes l e
set_of l (Changes o e) = T.Changes (record { lvalue = l; operator = o; value = e })

unfoldable pub set_behind : ℕ → Reading SetTree
set_behind fuel ts = made (λ v. set_of v.0 v.1) (lvalue fuel & deed (expression_at fuel 0) (changing fuel)) ts

unfoldable pub set : ℕ → Reading SetTree
set fuel ts = under (λ r. either is_step_next (made (λ c. T.Changes c) (prefixed r)) (set_behind r)) fuel ts

unfoldable pub local_value : ℕ → Reading (Option ValueTree)
local_value fuel ts = either (is_sign_next Assign) (there (sign Assign ▷ value fuel)) missing ts

-- The fuel is that of its parts.
unfoldable pub local : ℕ → Reading LocalTree
local fuel ts = made (λ v. record { kind = v.0; name = v.1.0; value = v.1.1 })
    (integer_type & name fuel & local_value fuel ◁ sign Semicolon) ts

unfoldable pub start_local : ℕ → Reading StartTree
start_local fuel ts = made (λ v. T.StartLocal v.0 v.1.0 v.1.1)
    (integer_type & under (λ r. name r & sign Assign ▷ expression_at r 0 ◁ sign Semicolon) fuel) ts

unfoldable pub start_set : ℕ → Reading StartTree
start_set fuel ts = made (λ s. T.StartSet s) (set fuel ◁ sign Semicolon) ts

unfoldable pub start_nothing : Reading StartTree
start_nothing ts = (sign Semicolon ▷ (λ rest. Ok (T.StartNothing, rest))) ts

unfoldable pub start : ℕ → Reading StartTree
start fuel ts = either (is_sign_next Semicolon) start_nothing (either is_type_next (start_local fuel) (start_set fuel)) ts
