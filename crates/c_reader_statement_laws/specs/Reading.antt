-- How statements are read. The number is the fuel: a tree that is higher is not read.
use Rattle.std.specs.Prelude.{ℕ, zero, suc, Bool, true, false, not, ◌&&◌, List, [], ◌∷◌, Option, Some, None, Ok, Err, if◌then◌else◌}
use Rattle.c_syntax.specs.declared.keyword.Keyword.TheVariants as K
use Rattle.c_syntax.specs.declared.punctuator.Punctuator.TheVariants.{LeftParenthesis, RightParenthesis, LeftBrace, RightBrace, Semicolon}
use Rattle.c_syntax.specs.declared.token.Token.{Token}
use Rattle.c_syntax.specs.declared.identifier.Identifier.{Identifier}
use Rattle.c_syntax.specs.declared.expression.AssignOperator.{AssignOperator}
use Rattle.c_syntax.specs.Trees.{ExpressionTree, ValueTree, SetTree, StatementTree, StatementsTree}
use Rattle.c_syntax.specs.Trees as T
use Rattle.c_reader_tokens.specs.declared.fault.Fault.TheVariants.{TooDeep}
use Rattle.c_reader_tokens.specs.Reading.{Reading, misfit}
use Rattle.c_reader_tokens.specs.Peeking.{is_sign_next, is_word_next, is_name_next, is_type_next, is_call_next}
use Rattle.c_reader_tokens.specs.Tokens.{sign, word, placed_word}
use Rattle.c_reader_tokens.specs.Assigning.{is_step_next}
use Rattle.c_reader_expression_laws.specs.Reading.{expression_at}
use Rattle.c_reader_statement_laws.specs.declared.first.First.{First}
use Rattle.c_reader_statement_laws.specs.declared.first.First.TheVariants as F
use Rattle.c_reader_productions.specs.Combining.{◌▷◌, ◌◁◌, marks, ◌&◌, made, either, missing, there, each}
use Rattle.c_reader_productions.specs.Deeds.{Deed, Becomes, Changes, deed, changing}
use Rattle.c_reader_productions.specs.Parts.{name, call, value, is_cell_next, cell, prefixed, set, local, start}

-- what begins with a keyword, or with `++` or `--`
abbrev pub first_word : List Token → First
first_word ts =
    if is_word_next K.If ts then F.If
    else if is_word_next K.While ts then F.While
    else if is_word_next K.For ts then F.For
    else if is_word_next K.Break ts then F.Break
    else if is_word_next K.Continue ts then F.Continue
    else if is_word_next K.Return ts then F.Return
    else if is_word_next K.Do ts then F.Do
    else if is_step_next ts then F.Step
    else F.Other

-- what begins, by the next two tokens; a local begins in a block alone
unfoldable pub first_of : (block : Bool) → List Token → First
first_of block ts =
    if is_sign_next Semicolon ts then F.Empty
    else if is_sign_next LeftBrace ts then F.Block
    else if block && is_type_next ts then F.Local
    else if is_call_next ts then F.Call
    else if is_cell_next ts then F.Store
    else if is_name_next ts then F.Assign
    else first_word ts

unfoldable pub empty : Reading StatementTree
empty ts = (sign Semicolon ▷ (λ rest. Ok (T.Empty, rest))) ts

unfoldable pub call_statement : ℕ → Reading StatementTree
call_statement fuel ts = made (λ c. T.Call c) (call fuel ◁ sign Semicolon) ts

-- what is done to a name, or to a cell: a name may become a call
abbrev pub assigned : Identifier → Deed ValueTree → StatementTree
assigned x (Becomes v) = T.Assign x v
assigned x (Changes o e) = T.Change (record { lvalue = T.Name x; operator = o; value = e })

abbrev pub stored : Identifier × ExpressionTree → Deed ExpressionTree → StatementTree
stored cell (Becomes e) = T.Store cell.0 cell.1 e
stored cell (Changes o e) = T.Change (record { lvalue = T.Cell cell.0 cell.1; operator = o; value = e })

-- what changes an lvalue before it, and the end of the statement
unfoldable pub changed : ℕ → Reading (AssignOperator × ExpressionTree)
changed fuel ts = (changing fuel ◁ sign Semicolon) ts

unfoldable pub assign : ℕ → Reading StatementTree
assign fuel ts = made (λ v. assigned v.0 v.1) (name fuel & deed (value fuel ◁ sign Semicolon) (changed fuel)) ts

unfoldable pub store : ℕ → Reading StatementTree
store fuel ts = made (λ v. stored v.0 v.1) (cell fuel & deed (expression_at fuel 0 ◁ sign Semicolon) (changed fuel)) ts

unfoldable pub step_statement : ℕ → Reading StatementTree
step_statement fuel ts = made (λ c. T.Change c) (prefixed fuel ◁ sign Semicolon) ts

unfoldable pub break_statement : Reading StatementTree
break_statement ts = made (λ at. T.Break at) (placed_word K.Break ◁ sign Semicolon) ts

unfoldable pub continue_statement : Reading StatementTree
continue_statement ts = made (λ at. T.Continue at) (placed_word K.Continue ◁ sign Semicolon) ts

-- the value that a `return` gives, or none
abbrev pub read_return : ℕ → Reading (Option ValueTree)
read_return fuel ts = either (is_sign_next Semicolon) missing (there (value fuel)) ts

unfoldable pub return_statement : ℕ → Reading StatementTree
return_statement fuel ts = made (λ v. T.Return v.0 v.1) (placed_word K.Return & read_return fuel ◁ sign Semicolon) ts

-- what an `if` makes of its condition, its statement, and what stands behind `else`
abbrev pub branched : ExpressionTree → StatementTree → Option StatementTree → StatementTree
branched e s None = T.If e s
branched e s (Some t) = T.IfElse e s t

-- statements one behind another
abbrev pub statements_of : List StatementTree → StatementsTree
statements_of [] = T.Done
statements_of (s ∷ rest) = T.First s (statements_of rest)

-- Statements with parts that are statements: these are read by another reading, which has less fuel.
abbrev pub Below : Type 0
Below = Bool → Reading StatementTree

-- a block goes on up to `}`
abbrev pub goes_on : List Token → Bool
goes_on ts = not (is_sign_next RightBrace ts)

unfoldable pub items_in : Below → Reading (List StatementTree)
items_in below ts = each goes_on (below true) ts

unfoldable pub block_in : Below → Reading StatementsTree
block_in below ts = made statements_of (sign LeftBrace ▷ items_in below ◁ sign RightBrace) ts

-- An `else` that is next belongs to the nearest `if`.
abbrev pub else_in : Below → Reading (Option StatementTree)
else_in below ts = either (is_word_next K.Else) (there (word K.Else ▷ below false)) missing ts

unfoldable pub branches_in : Below → Reading (StatementTree × Option StatementTree)
branches_in below ts = (below false & else_in below) ts

unfoldable pub if_in : Below → ℕ → Reading StatementTree
if_in below fuel ts = made (λ v. branched v.0 v.1.0 v.1.1)
    (word K.If ▷ sign LeftParenthesis ▷ expression_at fuel 0 & sign RightParenthesis ▷ branches_in below) ts

unfoldable pub while_in : Below → ℕ → Reading StatementTree
while_in below fuel ts = made (λ v. T.While v.0 v.1)
    (word K.While ▷ sign LeftParenthesis ▷ expression_at fuel 0 & sign RightParenthesis ▷ below false) ts

-- the condition behind the statement of a `do`
unfoldable pub do_end : ℕ → Reading ExpressionTree
do_end fuel ts =
    (word K.While ▷ sign LeftParenthesis ▷ expression_at fuel 0 ◁ marks (sign RightParenthesis) (sign Semicolon)) ts

unfoldable pub do_in : Below → ℕ → Reading StatementTree
do_in below fuel ts = made (λ v. T.Do v.0 v.1) (word K.Do ▷ below false & do_end fuel) ts

-- the condition of a `for`, and what it sets behind each turn
abbrev pub condition : ℕ → Reading (Option ExpressionTree)
condition fuel ts = either (is_sign_next Semicolon) missing (there (expression_at fuel 0)) ts

abbrev pub step : ℕ → Reading (Option SetTree)
step fuel ts = either (is_sign_next RightParenthesis) missing (there (set fuel)) ts

unfoldable pub for_in : Below → ℕ → Reading StatementTree
for_in below fuel ts = made (λ v. T.For v.0 v.1.0 v.1.1.0 v.1.1.1)
    (word K.For ▷ sign LeftParenthesis ▷ start fuel & condition fuel & sign Semicolon ▷ step fuel & sign RightParenthesis ▷ below false) ts

abbrev pub by_first : Below → ℕ → First → Reading StatementTree
by_first below fuel F.Empty ts = empty ts
by_first below fuel F.Local ts = made (λ l. T.Local l) (local fuel) ts
by_first below fuel F.Block ts = made (λ s. T.Block s) (block_in below) ts
by_first below fuel F.Call ts = call_statement fuel ts
by_first below fuel F.Assign ts = assign fuel ts
by_first below fuel F.Store ts = store fuel ts
by_first below fuel F.Step ts = step_statement fuel ts
by_first below fuel F.If ts = if_in below fuel ts
by_first below fuel F.While ts = while_in below fuel ts
by_first below fuel F.Do ts = do_in below fuel ts
by_first below fuel F.For ts = for_in below fuel ts
by_first below fuel F.Break ts = break_statement ts
by_first below fuel F.Continue ts = continue_statement ts
by_first below fuel F.Return ts = return_statement fuel ts
by_first below fuel F.Other ts = misfit ts

-- No fuel is left: what could begin here would be too high.
abbrev pub too_high : First → Reading StatementTree
too_high F.Other ts = misfit ts
too_high F.Empty ts = Err TooDeep
too_high F.Local ts = Err TooDeep
too_high F.Block ts = Err TooDeep
too_high F.Call ts = Err TooDeep
too_high F.Assign ts = Err TooDeep
too_high F.Store ts = Err TooDeep
too_high F.Step ts = Err TooDeep
too_high F.If ts = Err TooDeep
too_high F.While ts = Err TooDeep
too_high F.Do ts = Err TooDeep
too_high F.For ts = Err TooDeep
too_high F.Break ts = Err TooDeep
too_high F.Continue ts = Err TooDeep
too_high F.Return ts = Err TooDeep

unfoldable pub statement_at : (fuel : ℕ) (block : Bool) → Reading StatementTree
statement_at zero block ts = too_high (first_of block ts) ts
statement_at (suc fuel) block ts = by_first (statement_at fuel) fuel (first_of block ts) ts
