-- With more fuel the same is read, unless there was too little.
use Rattle.std.proofs.Common.{ℕ, zero, suc, ◌≤◌, Bool, true, false, List, [], ◌∷◌, length, Some, Ok, inl, inr, refl, arith}
use Rattle.c_syntax.specs.declared.keyword.Keyword.TheVariants as K
use Rattle.c_syntax.specs.declared.punctuator.Punctuator.TheVariants.{LeftParenthesis, RightParenthesis, LeftBracket, RightBracket, LeftBrace, RightBrace, Semicolon, Assign, Comma}
use Rattle.c_syntax.specs.declared.token.Token.{Token}
use Rattle.c_syntax.specs.declared.expression.AssignOperator.{AssignOperator}
use Rattle.c_syntax.specs.Trees.{ExpressionTree}
use Rattle.c_syntax.specs.Trees as T
use Rattle.c_syntax.specs.Statements.{one}
use Rattle.c_reader_tokens.specs.Reading.{Reading}
use Rattle.c_reader_tokens.specs.Peeking.{is_sign_next, is_word_next, is_type_next, is_call_next}
use Rattle.c_reader_tokens.specs.Tokens.{sign, word, placed_word, placed_name, integer_type}
use Rattle.c_reader_tokens.specs.Assigning.{assign_operator, step_operator, is_step_next}
use Rattle.c_reader_expression_laws.specs.Reading.{expression_at}
use Rattle.c_reader_expression_laws.proofs.Laws.{expression_stays}
use Rattle.c_reader_statement_laws.specs.declared.first.First.{First}
use Rattle.c_reader_statement_laws.specs.declared.first.First.TheVariants as F
use Rattle.c_reader_productions.specs.Combining.{◌▷◌, ◌◁◌, marks, ◌&◌, made, either, missing, there, repeated, each, commas}
use Rattle.c_reader_productions.specs.Deeds.{Becomes, Changes, deed, changing}
use Rattle.c_reader_productions.specs.Parts.{name, arguments, call, value, is_cell_next, cell, lvalue, prefixed, set_of, set_behind, set, local_value, local, start_local, start_set, start_nothing, start}
use Rattle.c_reader_statement_laws.specs.Reading.{first_of, call_statement, assigned, stored, changed, assign, store, step_statement, return_statement, branched, statements_of, Below, goes_on, items_in, block_in, branches_in, if_in, while_in, do_end, do_in, for_in, by_first, too_high, statement_at}
use Rattle.c_reader_productions.proofs.Laws.{Keeps, keeps_same, keeps_after, keeps_before, keeps_both, keeps_made, keeps_either, keeps_under}

pub repeated_keeps : {A : Type 0} (goes : List Token → Bool) {part more : Reading A} → Keeps part more → (limit : ℕ) → Keeps (repeated goes part limit) (repeated goes more limit)
unfolding repeated
repeated_keeps goes k zero ts = inr refl
repeated_keeps goes k (suc limit) ts = keeps_either goes (keeps_made (λ v. v.0 ∷ v.1) (keeps_both k (repeated_keeps goes k limit))) (keeps_same (λ rest. Ok ([], rest))) ts

pub each_keeps : {A : Type 0} (goes : List Token → Bool) {part more : Reading A} → Keeps part more → Keeps (each goes part) (each goes more)
each_keeps goes k ts = repeated_keeps goes k (length ts) ts

pub commas_keeps : {A : Type 0} {part more : Reading A} → Keeps part more → Keeps (commas part) (commas more)
unfolding commas
commas_keeps k ts = keeps_made (λ v. v.0 ∷ v.1) (keeps_both k (each_keeps (is_sign_next Comma) (keeps_after (sign Comma) k))) ts

there_keeps : {A : Type 0} {part more : Reading A} → Keeps part more → Keeps (there part) (there more)
there_keeps k ts = keeps_made (λ x. Some x) k ts

expression_keeps : (fuel more : ℕ) → fuel ≤ more → Keeps (expression_at fuel 0) (expression_at more 0)
expression_keeps fuel more le ts = expression_stays fuel more 0 ts le

name_keeps : (fuel more : ℕ) → fuel ≤ more → Keeps (name fuel) (name more)
unfolding name
name_keeps fuel more le ts = keeps_under (λ r. placed_name) (λ r s l. keeps_same placed_name) fuel more le ts

arguments_keeps : (fuel more : ℕ) → fuel ≤ more → Keeps (arguments fuel) (arguments more)
unfolding arguments
arguments_keeps fuel more le ts = keeps_either (is_sign_next RightParenthesis) (keeps_same (λ l. Ok ([], l))) (commas_keeps (expression_keeps fuel more le)) ts

call_keeps : (fuel more : ℕ) → fuel ≤ more → Keeps (call fuel) (call more)
unfolding call
call_keeps fuel more le ts =
    keeps_under (λ r. made (λ v. record { callee = v.0; arguments = v.1 }) (name r & sign LeftParenthesis ▷ arguments r ◁ sign RightParenthesis))
    (λ r s l. keeps_made (λ v. record { callee = v.0; arguments = v.1 }) (keeps_both (name_keeps r s l) (keeps_after (sign LeftParenthesis) (keeps_before (sign RightParenthesis) (arguments_keeps r s l))))) fuel more le ts

value_keeps : (fuel more : ℕ) → fuel ≤ more → Keeps (value fuel) (value more)
unfolding value
value_keeps fuel more le ts = keeps_either is_call_next (keeps_made (λ c. T.Called c) (call_keeps fuel more le)) (keeps_made (λ e. T.Plain e) (expression_keeps fuel more le)) ts

cell_keeps : (fuel more : ℕ) → fuel ≤ more → Keeps (cell fuel) (cell more)
unfolding cell
cell_keeps fuel more le ts =
    keeps_under (λ r. name r & sign LeftBracket ▷ expression_at r 0 ◁ sign RightBracket)
    (λ r s l. keeps_both (name_keeps r s l) (keeps_after (sign LeftBracket) (keeps_before (sign RightBracket) (expression_keeps r s l)))) fuel more le ts

lvalue_keeps : (fuel more : ℕ) → fuel ≤ more → Keeps (lvalue fuel) (lvalue more)
unfolding lvalue
lvalue_keeps fuel more le ts = keeps_either is_cell_next (keeps_made (λ v. T.Cell v.0 v.1) (cell_keeps fuel more le)) (keeps_made (λ x. T.Name x) (name_keeps fuel more le)) ts

prefixed_keeps : (fuel more : ℕ) → fuel ≤ more → Keeps (prefixed fuel) (prefixed more)
unfolding prefixed
prefixed_keeps fuel more le ts =
    keeps_made (λ v. record { lvalue = v.1; operator = v.0; value = one }) (keeps_both (keeps_same step_operator) (lvalue_keeps fuel more le)) ts

changing_keeps : (fuel more : ℕ) → fuel ≤ more → Keeps (changing fuel) (changing more)
unfolding changing
changing_keeps fuel more le ts =
    keeps_either is_step_next (keeps_same (made (λ o. (o, one)) step_operator)) (keeps_both (keeps_same assign_operator) (expression_keeps fuel more le)) ts

deed_keeps : {A : Type 0} {becomes becomes' : Reading A} {changes changes' : Reading (AssignOperator × ExpressionTree)} → Keeps becomes becomes' → Keeps changes changes' → Keeps (deed becomes changes) (deed becomes' changes')
deed_keeps k h ts = keeps_either (is_sign_next Assign) (keeps_made (λ x. Becomes x) (keeps_after (sign Assign) k)) (keeps_made (λ c. Changes c.0 c.1) h) ts

set_behind_keeps : (fuel more : ℕ) → fuel ≤ more → Keeps (set_behind fuel) (set_behind more)
unfolding set_behind
set_behind_keeps fuel more le ts =
    keeps_made (λ v. set_of v.0 v.1) (keeps_both (lvalue_keeps fuel more le) (deed_keeps (expression_keeps fuel more le) (changing_keeps fuel more le))) ts

set_keeps : (fuel more : ℕ) → fuel ≤ more → Keeps (set fuel) (set more)
unfolding set
set_keeps fuel more le ts =
    keeps_under (λ r. either is_step_next (made (λ c. T.Changes c) (prefixed r)) (set_behind r))
    (λ r s l. keeps_either is_step_next (keeps_made (λ c. T.Changes c) (prefixed_keeps r s l)) (set_behind_keeps r s l)) fuel more le ts

local_value_keeps : (fuel more : ℕ) → fuel ≤ more → Keeps (local_value fuel) (local_value more)
unfolding local_value
local_value_keeps fuel more le ts = keeps_either (is_sign_next Assign) (there_keeps (keeps_after (sign Assign) (value_keeps fuel more le))) (keeps_same missing) ts

local_keeps : (fuel more : ℕ) → fuel ≤ more → Keeps (local fuel) (local more)
unfolding local
local_keeps fuel more le ts =
    keeps_made (λ v. record { kind = v.0; name = v.1.0; value = v.1.1 })
    (keeps_both (keeps_same integer_type) (keeps_both (name_keeps fuel more le) (keeps_before (sign Semicolon) (local_value_keeps fuel more le)))) ts

start_local_keeps : (fuel more : ℕ) → fuel ≤ more → Keeps (start_local fuel) (start_local more)
unfolding start_local
start_local_keeps fuel more le ts =
    keeps_made (λ v. T.StartLocal v.0 v.1.0 v.1.1)
    (keeps_both (keeps_same integer_type) (keeps_under (λ r. name r & sign Assign ▷ expression_at r 0 ◁ sign Semicolon)
    (λ r s l. keeps_both (name_keeps r s l) (keeps_after (sign Assign) (keeps_before (sign Semicolon) (expression_keeps r s l)))) fuel more le)) ts

start_set_keeps : (fuel more : ℕ) → fuel ≤ more → Keeps (start_set fuel) (start_set more)
unfolding start_set
start_set_keeps fuel more le ts = keeps_made (λ s. T.StartSet s) (keeps_before (sign Semicolon) (set_keeps fuel more le)) ts

start_keeps : (fuel more : ℕ) → fuel ≤ more → Keeps (start fuel) (start more)
unfolding start
start_keeps fuel more le ts =
    keeps_either (is_sign_next Semicolon) (keeps_same start_nothing) (keeps_either is_type_next (start_local_keeps fuel more le) (start_set_keeps fuel more le)) ts

call_statement_keeps : (fuel more : ℕ) → fuel ≤ more → Keeps (call_statement fuel) (call_statement more)
unfolding call_statement
call_statement_keeps fuel more le ts = keeps_made (λ c. T.Call c) (keeps_before (sign Semicolon) (call_keeps fuel more le)) ts

changed_keeps : (fuel more : ℕ) → fuel ≤ more → Keeps (changed fuel) (changed more)
unfolding changed
changed_keeps fuel more le ts = keeps_before (sign Semicolon) (changing_keeps fuel more le) ts

assign_keeps : (fuel more : ℕ) → fuel ≤ more → Keeps (assign fuel) (assign more)
unfolding assign
assign_keeps fuel more le ts =
    keeps_made (λ v. assigned v.0 v.1) (keeps_both (name_keeps fuel more le) (deed_keeps (keeps_before (sign Semicolon) (value_keeps fuel more le)) (changed_keeps fuel more le))) ts

store_keeps : (fuel more : ℕ) → fuel ≤ more → Keeps (store fuel) (store more)
unfolding store
store_keeps fuel more le ts =
    keeps_made (λ v. stored v.0 v.1) (keeps_both (cell_keeps fuel more le) (deed_keeps (keeps_before (sign Semicolon) (expression_keeps fuel more le)) (changed_keeps fuel more le))) ts

step_statement_keeps : (fuel more : ℕ) → fuel ≤ more → Keeps (step_statement fuel) (step_statement more)
unfolding step_statement
step_statement_keeps fuel more le ts = keeps_made (λ c. T.Change c) (keeps_before (sign Semicolon) (prefixed_keeps fuel more le)) ts

do_end_keeps : (fuel more : ℕ) → fuel ≤ more → Keeps (do_end fuel) (do_end more)
unfolding do_end
do_end_keeps fuel more le ts =
    keeps_after (word K.While) (keeps_after (sign LeftParenthesis) (keeps_before (marks (sign RightParenthesis) (sign Semicolon)) (expression_keeps fuel more le))) ts

return_keeps : (fuel more : ℕ) → fuel ≤ more → Keeps (return_statement fuel) (return_statement more)
unfolding return_statement
return_keeps fuel more le ts =
    keeps_made (λ v. T.Return v.0 v.1) (keeps_both (keeps_same (placed_word K.Return)) (keeps_before (sign Semicolon) (keeps_either (is_sign_next Semicolon) (keeps_same missing) (there_keeps (value_keeps fuel more le))))) ts

-- Statements with parts that are statements, over two readings of these.
module _ (below above : Below) (fuel more : ℕ) (le : fuel ≤ more) (keeps : (block : Bool) → Keeps (below block) (above block)) where
  pub block_keeps : Keeps (block_in below) (block_in above)
  unfolding block_in items_in
  block_keeps ts = keeps_made statements_of (keeps_after (sign LeftBrace) (keeps_before (sign RightBrace) (each_keeps goes_on (keeps true)))) ts

  branches_keeps : Keeps (branches_in below) (branches_in above)
  unfolding branches_in
  branches_keeps ts = keeps_both (keeps false) (keeps_either (is_word_next K.Else) (there_keeps (keeps_after (word K.Else) (keeps false))) (keeps_same missing)) ts

  if_keeps : Keeps (if_in below fuel) (if_in above more)
  unfolding if_in
  if_keeps ts =
      keeps_made (λ v. branched v.0 v.1.0 v.1.1)
      (keeps_after (word K.If) (keeps_after (sign LeftParenthesis) (keeps_both (expression_keeps fuel more le) (keeps_after (sign RightParenthesis) branches_keeps)))) ts

  while_keeps : Keeps (while_in below fuel) (while_in above more)
  unfolding while_in
  while_keeps ts =
      keeps_made (λ v. T.While v.0 v.1)
      (keeps_after (word K.While) (keeps_after (sign LeftParenthesis) (keeps_both (expression_keeps fuel more le) (keeps_after (sign RightParenthesis) (keeps false))))) ts

  do_keeps : Keeps (do_in below fuel) (do_in above more)
  unfolding do_in
  do_keeps ts = keeps_made (λ v. T.Do v.0 v.1) (keeps_after (word K.Do) (keeps_both (keeps false) (do_end_keeps fuel more le))) ts

  for_keeps : Keeps (for_in below fuel) (for_in above more)
  unfolding for_in
  for_keeps ts =
      keeps_made (λ v. T.For v.0 v.1.0 v.1.1.0 v.1.1.1)
      (keeps_after (word K.For) (keeps_after (sign LeftParenthesis) (keeps_both (start_keeps fuel more le)
      (keeps_both (keeps_either (is_sign_next Semicolon) (keeps_same missing) (there_keeps (expression_keeps fuel more le)))
      (keeps_after (sign Semicolon) (keeps_both (keeps_either (is_sign_next RightParenthesis) (keeps_same missing) (there_keeps (set_keeps fuel more le)))
      (keeps_after (sign RightParenthesis) (keeps false)))))))) ts

  by_first_keeps : (first : First) → Keeps (by_first below fuel first) (by_first above more first)
  by_first_keeps F.Empty ts = inr refl
  by_first_keeps F.Local ts = keeps_made (λ l. T.Local l) (local_keeps fuel more le) ts
  by_first_keeps F.Block ts = keeps_made (λ s. T.Block s) block_keeps ts
  by_first_keeps F.Call ts = call_statement_keeps fuel more le ts
  by_first_keeps F.Assign ts = assign_keeps fuel more le ts
  by_first_keeps F.Store ts = store_keeps fuel more le ts
  by_first_keeps F.Step ts = step_statement_keeps fuel more le ts
  by_first_keeps F.If ts = if_keeps ts
  by_first_keeps F.While ts = while_keeps ts
  by_first_keeps F.Do ts = do_keeps ts
  by_first_keeps F.For ts = for_keeps ts
  by_first_keeps F.Break ts = inr refl
  by_first_keeps F.Continue ts = inr refl
  by_first_keeps F.Return ts = return_keeps fuel more le ts
  by_first_keeps F.Other ts = inr refl

too_high_keeps : (below : Below) (fuel : ℕ) (first : First) → Keeps (too_high first) (by_first below fuel first)
too_high_keeps below fuel F.Other ts = inr refl
too_high_keeps below fuel F.Empty ts = inl refl
too_high_keeps below fuel F.Local ts = inl refl
too_high_keeps below fuel F.Block ts = inl refl
too_high_keeps below fuel F.Call ts = inl refl
too_high_keeps below fuel F.Assign ts = inl refl
too_high_keeps below fuel F.Store ts = inl refl
too_high_keeps below fuel F.Step ts = inl refl
too_high_keeps below fuel F.If ts = inl refl
too_high_keeps below fuel F.While ts = inl refl
too_high_keeps below fuel F.Do ts = inl refl
too_high_keeps below fuel F.For ts = inl refl
too_high_keeps below fuel F.Break ts = inl refl
too_high_keeps below fuel F.Continue ts = inl refl
too_high_keeps below fuel F.Return ts = inl refl

pub statement_keeps : (fuel more : ℕ) → fuel ≤ more → (block : Bool) → Keeps (statement_at fuel block) (statement_at more block)
unfolding statement_at
statement_keeps zero zero le block ts = inr refl
statement_keeps zero (suc more) le block ts = too_high_keeps (statement_at more) more (first_of block ts) ts
statement_keeps (suc fuel) zero le block ts = absurd (omega arith)
statement_keeps (suc fuel) (suc more) le block ts =
    by_first_keeps (statement_at fuel) (statement_at more) fuel more (omega arith) (statement_keeps fuel more (omega arith)) (first_of block ts) ts
