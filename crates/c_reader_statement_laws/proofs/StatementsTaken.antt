-- Statements: what is read is spelled so, is no higher than the fuel, and takes an `else` that is next.
use Rattle.std.proofs.Common.{◌≡◌, ℕ, zero, suc, ◌≤◌, Bool, true, false, cond, List, [], ◌∷◌, ◌++◌, Option, Some, None, Ok, inl, inr, refl, sym, ap, subst, ◌∙◌, append_assoc, arith}
use Rattle.c_syntax.specs.declared.keyword.Keyword.TheVariants as K
use Rattle.c_syntax.specs.declared.punctuator.Punctuator.TheVariants.{LeftParenthesis, RightParenthesis, LeftBracket, RightBracket, LeftBrace, RightBrace, Semicolon}
use Rattle.c_syntax.specs.declared.token.Token.{Token}
use Rattle.c_syntax.specs.declared.identifier.Identifier.{Identifier}
use Rattle.c_syntax.specs.declared.expression.AssignOperator.{AssignOperator}
use Rattle.c_syntax.specs.Trees.{ExpressionTree, ValueTree, LvalueTree, SetTree, StartTree, StatementTree, StatementsTree}
use Rattle.c_syntax.specs.Trees as T
use Rattle.c_syntax.specs.Parts.{Sign, Word, IsName, ◌⨾◌}
use Rattle.c_syntax.specs.Expressions.{IsExpression}
use Rattle.c_syntax.specs.Statements.{ends_open, IsValue, IsLvalue, IsStatementIn, AreStatements}
use Rattle.c_syntax.specs.Heights.{expression_height, value_height, set_height, start_height, statement_height, statements_height, IfThere}
use Rattle.c_reader_tokens.specs.Reading.{◌>>=◌, misfit}
use Rattle.c_reader_tokens.specs.Peeking.{is_sign_next, is_word_next, is_name_next, is_call_next}
use Rattle.c_reader_tokens.specs.Tokens.{word}
use Rattle.c_reader_tokens.specs.Assigning.{is_step_next}
use Rattle.c_reader_tokens.proofs.Laws.{done, ok_is, bind_ok}
use Rattle.c_reader_statement_laws.specs.declared.first.First.{First}
use Rattle.c_reader_statement_laws.specs.declared.first.First.TheVariants as F
use Rattle.c_reader_productions.specs.Combining.{◌▷◌, made, missing, there}
use Rattle.c_reader_productions.specs.Deeds.{Deed, Becomes, Changes}
use Rattle.c_reader_productions.specs.Parts.{is_cell_next, local}
use Rattle.c_reader_statement_laws.specs.Reading.{first_word, first_of, empty, call_statement, assigned, stored, changed, assign, store, step_statement, break_statement, continue_statement, return_statement, branched, statements_of, Below, goes_on, items_in, block_in, else_in, branches_in, if_in, while_in, do_end, do_in, for_in, by_first, too_high, statement_at}
use Rattle.c_reader_productions.proofs.Laws.{chosen, IsTaken, IsSound, Any, both_marks, after, before, both, made_takes, unless, Each, AllFit, each_sound}
use Rattle.c_reader_productions.proofs.PartsTaken.{sign_mark, word_mark, sound_as, placed_word_sound, expression_sound, name_sound, call_sound, value_sound, option_low, local_sound, marked_takes}
use Rattle.c_reader_productions.proofs.Sets as sets
use Rattle.c_reader_productions.proofs.Sets.{grouped, apart, IsChanging, LowChanging, changing_sound, FitsDeed, SpellsDeed, deed_sound, LowCell, IsCell, cell_sound, prefixed_sound, set_sound, start_sound}

-- no `else` is left behind an `if` without one
abbrev pub Leaves : StatementTree → List Token → Type 0
Leaves s rest = ends_open s ≡ true → is_word_next K.Else rest ≡ false

abbrev pub Low : ℕ → StatementTree → Type 0
Low fuel s = statement_height s ≤ fuel

-- Nothing is said of the rest where a statement does not end open.
closed : (rest : List Token) → false ≡ true → is_word_next K.Else rest ≡ false
closed rest e = absurd cc

call_statement_sound : (fuel : ℕ) (block : Bool) → IsSound (call_statement fuel) (Low (suc fuel)) (IsStatementIn block) Leaves
unfolding call_statement
call_statement_sound fuel block = record {
  takes = made_takes (λ c. T.Call c) (before (call_sound fuel) (sign_mark Semicolon)) (Low (suc fuel)) (IsStatementIn block) Leaves (λ v f. omega arith) (λ v xs d. d) (λ v rest l. closed rest);
}

-- ---- what is done to a name or a cell

changed_sound : (fuel : ℕ) → IsSound (changed fuel) (LowChanging fuel) (λ c. IsChanging c ⨾ Sign Semicolon) Any
unfolding changed
changed_sound fuel = record { takes = (before (changing_sound fuel) (sign_mark Semicolon)).takes }

changed_spelled : (block : Bool) (l : LvalueTree) (o : AssignOperator) (e : ExpressionTree) (xs : List Token) → (IsLvalue l ⨾ (IsChanging (o, e) ⨾ Sign Semicolon)) xs → IsStatementIn block (T.Change (record { lvalue = l; operator = o; value = e })) xs
changed_spelled block l o e xs d = let g = grouped xs d in (g.0, g.1, sets.changed l o e g.0 g.2, g.3, g.4)

assigned_low : (fuel : ℕ) (x : Identifier) (v : Deed ValueTree) → 1 ≤ fuel → FitsDeed (λ v. value_height v ≤ fuel) (LowChanging fuel) v → Low (suc fuel) (assigned x v)
assigned_low fuel x (Becomes v) le f = omega arith
assigned_low fuel x (Changes o e) le f = let low = f le in omega arith

assigned_spelled : (block : Bool) (x : Identifier) (v : Deed ValueTree) (xs : List Token) → (IsName x ⨾ SpellsDeed (λ v. IsValue v ⨾ Sign Semicolon) (λ c. IsChanging c ⨾ Sign Semicolon) v) xs → IsStatementIn block (assigned x v) xs
assigned_spelled block x (Becomes v) xs d = d
assigned_spelled block x (Changes o e) xs d = changed_spelled block (T.Name x) o e xs d

assigned_leaves : (x : Identifier) (v : Deed ValueTree) (rest : List Token) → Leaves (assigned x v) rest
assigned_leaves x (Becomes v) rest = closed rest
assigned_leaves x (Changes o e) rest = closed rest

assign_sound : (fuel : ℕ) (block : Bool) → IsSound (assign fuel) (Low (suc fuel)) (IsStatementIn block) Leaves
unfolding assign
assign_sound fuel block = record {
  takes = made_takes (λ v. assigned v.0 v.1) (both (name_sound fuel) (deed_sound (before (value_sound fuel) (sign_mark Semicolon)) (changed_sound fuel))) (Low (suc fuel)) (IsStatementIn block) Leaves
      (λ v f. assigned_low fuel v.0 v.1 f.0 f.1) (λ v xs d. assigned_spelled block v.0 v.1 xs d) (λ v rest l. assigned_leaves v.0 v.1 rest);
}

-- a cell, and more behind it, as one row of parts
pub cell_apart : {R : List Token → Type 0} (c : Identifier × ExpressionTree) (xs : List Token) → (IsCell c ⨾ R) xs → (IsName c.0 ⨾ (Sign LeftBracket ⨾ (IsExpression c.1 ⨾ (Sign RightBracket ⨾ R)))) xs
cell_apart c xs d =
    let a = apart xs d in
    let b = apart a.1 a.3 in
    (a.0, a.1, a.2, (b.0, b.1, b.2, apart b.1 b.3, b.4), a.4)

stored_low : (fuel : ℕ) (c : Identifier × ExpressionTree) (v : Deed ExpressionTree) → LowCell fuel c → FitsDeed (λ e. expression_height e ≤ fuel) (LowChanging fuel) v → Low (suc fuel) (stored c v)
stored_low fuel c (Becomes e) le f = omega arith
stored_low fuel c (Changes o e) le f = let low = f (omega arith) in omega arith

stored_spelled : (block : Bool) (c : Identifier × ExpressionTree) (v : Deed ExpressionTree) (xs : List Token) → (IsCell c ⨾ SpellsDeed (λ e. IsExpression e ⨾ Sign Semicolon) (λ c. IsChanging c ⨾ Sign Semicolon) v) xs → IsStatementIn block (stored c v) xs
stored_spelled block c (Becomes e) xs d = cell_apart c xs d
stored_spelled block c (Changes o e) xs d = changed_spelled block (T.Cell c.0 c.1) o e xs d

stored_leaves : (c : Identifier × ExpressionTree) (v : Deed ExpressionTree) (rest : List Token) → Leaves (stored c v) rest
stored_leaves c (Becomes e) rest = closed rest
stored_leaves c (Changes o e) rest = closed rest

store_sound : (fuel : ℕ) (block : Bool) → IsSound (store fuel) (Low (suc fuel)) (IsStatementIn block) Leaves
unfolding store
store_sound fuel block = record {
  takes = made_takes (λ v. stored v.0 v.1) (both (cell_sound fuel) (deed_sound (before (expression_sound fuel) (sign_mark Semicolon)) (changed_sound fuel))) (Low (suc fuel)) (IsStatementIn block) Leaves
      (λ v f. stored_low fuel v.0 v.1 f.0 f.1) (λ v xs d. stored_spelled block v.0 v.1 xs d) (λ v rest l. stored_leaves v.0 v.1 rest);
}

step_statement_sound : (fuel : ℕ) (block : Bool) → IsSound (step_statement fuel) (Low (suc fuel)) (IsStatementIn block) Leaves
unfolding step_statement
step_statement_sound fuel block = record {
  takes = made_takes (λ c. T.Change c) (before (prefixed_sound fuel) (sign_mark Semicolon)) (Low (suc fuel)) (IsStatementIn block) Leaves (λ c f. f) (λ c xs d. d) (λ c rest l. closed rest);
}

-- ---- other statements without statements inside

break_sound : (fuel : ℕ) (block : Bool) → IsSound break_statement (Low (suc fuel)) (IsStatementIn block) Leaves
unfolding break_statement
break_sound fuel block = record {
  takes = made_takes (λ at. T.Break at) (before (placed_word_sound K.Break) (sign_mark Semicolon)) (Low (suc fuel)) (IsStatementIn block) Leaves (λ v f. omega arith) (λ v xs d. d) (λ v rest l. closed rest);
}

continue_sound : (fuel : ℕ) (block : Bool) → IsSound continue_statement (Low (suc fuel)) (IsStatementIn block) Leaves
unfolding continue_statement
continue_sound fuel block = record {
  takes = made_takes (λ at. T.Continue at) (before (placed_word_sound K.Continue) (sign_mark Semicolon)) (Low (suc fuel)) (IsStatementIn block) Leaves (λ v f. omega arith) (λ v xs d. d) (λ v rest l. closed rest);
}

return_sound : (fuel : ℕ) (block : Bool) → IsSound (return_statement fuel) (Low (suc fuel)) (IsStatementIn block) Leaves
unfolding return_statement
return_sound fuel block = record {
  takes = made_takes (λ v. T.Return v.0 v.1) (both (placed_word_sound K.Return) (before (unless (is_sign_next Semicolon) (value_sound fuel)) (sign_mark Semicolon))) (Low (suc fuel)) (IsStatementIn block) Leaves
      (λ v f. let low = option_low value_height fuel v.1 f.1 in omega arith) (λ v xs d. d) (λ v rest l. closed rest);
}

local_statement_sound : (fuel : ℕ) → IsSound (made (λ l. T.Local l) (local fuel)) (Low (suc fuel)) (IsStatementIn true) Leaves
local_statement_sound fuel = record {
  takes = made_takes (λ l. T.Local l) (local_sound fuel) (Low (suc fuel)) (IsStatementIn true) Leaves (λ v f. f) (λ v xs d. (refl, d)) (λ v rest l. closed rest);
}

-- an `if`'s statement, and what stands behind `else`, if that is there
abbrev pub SpellsBranches : StatementTree → Option StatementTree → List Token → Type 0
SpellsBranches s None xs = IsStatementIn false s xs
SpellsBranches s (Some t) xs = (ends_open s ≡ false) × (IsStatementIn false s ⨾ (Word K.Else ⨾ IsStatementIn false t)) xs

abbrev pub LeavesBranches : Option StatementTree → List Token → Type 0
LeavesBranches None rest = is_word_next K.Else rest ≡ false
LeavesBranches (Some t) rest = Leaves t rest

-- Statements with parts that are statements, over a reading of these that is sound.
module _ (below : Below) (fuel : ℕ) (sound : (block : Bool) → IsSound (below block) (Low fuel) (IsStatementIn block) Leaves) where
  statements_spelled : (ss : List StatementTree) (xs : List Token) → Each (IsStatementIn true) ss xs → AreStatements (statements_of ss) xs
  statements_spelled [] xs d = d
  statements_spelled (s ∷ ss) xs d = (d.0, d.1, d.2, statements_spelled ss d.1 d.3, d.4)

  statements_low : (ss : List StatementTree) → AllFit (Low fuel) ss → statements_height (statements_of ss) ≤ fuel
  statements_low [] f = omega arith
  statements_low (s ∷ ss) f =
      let one = f.0 in
      let more = statements_low ss f.1 in
      omega arith

  pub block_sound : IsSound (block_in below) (λ ss. statements_height ss ≤ fuel) (λ ss. Sign LeftBrace ⨾ (AreStatements ss ⨾ Sign RightBrace)) Any
  unfolding block_in items_in
  block_sound = record {
    takes = made_takes statements_of (after (sign_mark LeftBrace) (before (sound_as (each_sound goes_on (sound true)) (AllFit (Low fuel)) (λ ss. AreStatements (statements_of ss)) (λ ss f. f) statements_spelled) (sign_mark RightBrace)))
        (λ ss. statements_height ss ≤ fuel) (λ ss. Sign LeftBrace ⨾ (AreStatements ss ⨾ Sign RightBrace)) Any statements_low (λ ss xs d. d) (λ v rest l. tt);
  }

  block_statement_sound : (block : Bool) → IsSound (made (λ s. T.Block s) (block_in below)) (Low (suc fuel)) (IsStatementIn block) Leaves
  block_statement_sound block = record {
    takes = made_takes (λ s. T.Block s) block_sound (Low (suc fuel)) (IsStatementIn block) Leaves (λ v f. omega arith) (λ v xs d. d) (λ v rest l. closed rest);
  }

  while_sound : (block : Bool) → IsSound (while_in below fuel) (Low (suc fuel)) (IsStatementIn block) Leaves
  unfolding while_in
  while_sound block = record {
    takes = made_takes (λ v. T.While v.0 v.1) (after (word_mark K.While) (after (sign_mark LeftParenthesis) (both (expression_sound fuel) (after (sign_mark RightParenthesis) (sound false))))) (Low (suc fuel)) (IsStatementIn block) Leaves
        (λ v f. let one = f.0 in let low = f.1 in omega arith) (λ v xs d. d) (λ v rest l. l);
  }

  do_end_sound : IsSound (do_end fuel) (λ e. expression_height e ≤ fuel) (λ e. Word K.While ⨾ (Sign LeftParenthesis ⨾ (IsExpression e ⨾ (Sign RightParenthesis ⨾ Sign Semicolon)))) Any
  unfolding do_end
  do_end_sound = record {
    takes = (after (word_mark K.While) (after (sign_mark LeftParenthesis) (before (expression_sound fuel) (both_marks (sign_mark RightParenthesis) (sign_mark Semicolon))))).takes;
  }

  do_sound : (block : Bool) → IsSound (do_in below fuel) (Low (suc fuel)) (IsStatementIn block) Leaves
  unfolding do_in
  do_sound block = record {
    takes = made_takes (λ v. T.Do v.0 v.1) (after (word_mark K.Do) (both (sound false) do_end_sound)) (Low (suc fuel)) (IsStatementIn block) Leaves
        (λ v f. let one = f.0 in let low = f.1 in omega arith) (λ v xs d. d) (λ v rest l. closed rest);
  }

  for_low : (start : StartTree) (e : Option ExpressionTree) (s : Option SetTree) (body : StatementTree) → start_height start ≤ fuel → IfThere (λ x. expression_height x ≤ fuel) e → IfThere (λ x. set_height x ≤ fuel) s → Low fuel body → Low (suc fuel) (T.For start e s body)
  for_low start e s body f g h k =
      let one = option_low expression_height fuel e g in
      let two = option_low set_height fuel s h in
      omega arith

  for_sound : (block : Bool) → IsSound (for_in below fuel) (Low (suc fuel)) (IsStatementIn block) Leaves
  unfolding for_in
  for_sound block = record {
    takes = made_takes (λ v. T.For v.0 v.1.0 v.1.1.0 v.1.1.1)
        (after (word_mark K.For) (after (sign_mark LeftParenthesis) (both (start_sound fuel) (both (unless (is_sign_next Semicolon) (expression_sound fuel))
        (after (sign_mark Semicolon) (both (unless (is_sign_next RightParenthesis) (set_sound fuel)) (after (sign_mark RightParenthesis) (sound false))))))))
        (Low (suc fuel)) (IsStatementIn block) Leaves
        (λ v f. for_low v.0 v.1.0 v.1.1.0 v.1.1.1 f.0 f.1.0 f.1.1.0 f.1.1.1) (λ v xs d. d) (λ v rest l. l);
  }

  -- what an `if` does and what it does otherwise
  abbrev pub LowBranches : StatementTree × Option StatementTree → Type 0
  LowBranches v = Low fuel v.0 × IfThere (Low fuel) v.1

  not_open : (b : Bool) (rest : List Token) → (b ≡ true → is_word_next K.Else rest ≡ false) → is_word_next K.Else rest ≡ true → b ≡ false
  not_open true rest h e = absurd (let f = h refl in cc)
  not_open false rest h e = refl

  abbrev BranchesTaken : List Token → StatementTree × Option StatementTree → List Token → Type 0
  BranchesTaken ts v rest = IsTaken LowBranches (λ w. SpellsBranches w.0 w.1) (λ w. LeavesBranches w.1) ts v rest

  with_else : (ts : List Token) (s : StatementTree) (mid : List Token) (first : IsTaken (Low fuel) (IsStatementIn false) Leaves ts s mid) → is_word_next K.Else mid ≡ true → (o : Option StatementTree) (rest : List Token) → there (word K.Else ▷ below false) mid ≡ Ok (o, rest) → BranchesTaken ts (s, o) rest
  with_else ts s mid first next o rest e =
      let b = bind_ok ((word K.Else ▷ below false) mid) (λ x. done (Some x.0, x.1)) (o, rest) e in
      let t = (after (word_mark K.Else) (sound false)).takes mid b.0.0 b.0.1 b.1 in
      subst (λ (z : Option StatementTree × List Token). BranchesTaken ts (s, z.0) z.1) (ok_is (Some b.0.0, b.0.1) (o, rest) b.2)
      (record {
        fits = (first.fits, t.fits);
        leaves = t.leaves;
        front = first.front ++ t.front;
        spelled = (not_open (ends_open s) mid first.leaves next, (first.front, t.front, first.spelled, t.spelled, refl));
        parts = first.parts ∙ ap (λ (l : List Token). first.front ++ l) t.parts ∙ sym (append_assoc first.front t.front b.0.1);
      })

  without_else : (ts : List Token) (s : StatementTree) (mid : List Token) (first : IsTaken (Low fuel) (IsStatementIn false) Leaves ts s mid) → is_word_next K.Else mid ≡ false → (o : Option StatementTree) (rest : List Token) → missing mid ≡ Ok (o, rest) → BranchesTaken ts (s, o) rest
  without_else ts s mid first next o rest e =
      subst (λ (z : Option StatementTree × List Token). BranchesTaken ts (s, z.0) z.1) (ok_is (None, mid) (o, rest) e)
      (record { fits = (first.fits, tt); leaves = next; front = first.front; spelled = first.spelled; parts = first.parts })

  branches_taken : (ts : List Token) (v : StatementTree × Option StatementTree) (rest : List Token) → branches_in below ts ≡ Ok (v, rest) → BranchesTaken ts v rest
  unfolding branches_in
  branches_taken ts v rest e =
      let b = bind_ok (below false ts) (λ x. else_in below x.1 >>= λ y. Ok ((x.0, y.0), y.1)) (v, rest) e in
      let c = bind_ok (else_in below b.0.1) (λ y. Ok ((b.0.0, y.0), y.1)) (v, rest) b.2 in
      let first = (sound false).takes ts b.0.0 b.0.1 b.1 in
      let way = chosen (is_word_next K.Else b.0.1) (there (word K.Else ▷ below false) b.0.1) (missing b.0.1) (done (c.0.0, c.0.1)) c.1 in
      subst (λ (z : (StatementTree × Option StatementTree) × List Token). BranchesTaken ts z.0 z.1) (ok_is ((b.0.0, c.0.0), c.0.1) (v, rest) c.2)
      (elim way [
        | inl h ↦ with_else ts b.0.0 b.0.1 first h.0 c.0.0 c.0.1 h.1
        | inr h ↦ without_else ts b.0.0 b.0.1 first h.0 c.0.0 c.0.1 h.1
      ])

  branched_low : (e : ExpressionTree) (s : StatementTree) (o : Option StatementTree) → expression_height e ≤ fuel → LowBranches (s, o) → Low (suc fuel) (branched e s o)
  branched_low e s None f g = let low = g.0 in omega arith
  branched_low e s (Some t) f g = let low = g.0 in let other = g.1 in omega arith

  branched_spelled : (block : Bool) (e : ExpressionTree) (s : StatementTree) (o : Option StatementTree) (xs : List Token) → (Word K.If ⨾ (Sign LeftParenthesis ⨾ (IsExpression e ⨾ (Sign RightParenthesis ⨾ SpellsBranches s o)))) xs → IsStatementIn block (branched e s o) xs
  branched_spelled block e s None xs d = d
  branched_spelled block e s (Some t) xs d =
      let p = d.3 in
      let q = p.3 in
      let r = q.3 in
      (r.3.0, (d.0, d.1, d.2, (p.0, p.1, p.2, (q.0, q.1, q.2, (r.0, r.1, r.2, r.3.1, r.4), q.4), p.4), d.4))

  branched_leaves : (e : ExpressionTree) (s : StatementTree) (o : Option StatementTree) (rest : List Token) → LeavesBranches o rest → Leaves (branched e s o) rest
  branched_leaves e s None rest l = λ ends. l
  branched_leaves e s (Some t) rest l = l

  if_sound : (block : Bool) → IsSound (if_in below fuel) (Low (suc fuel)) (IsStatementIn block) Leaves
  unfolding if_in
  if_sound block =
      let branches : IsSound (branches_in below) LowBranches (λ w. SpellsBranches w.0 w.1) (λ w. LeavesBranches w.1) = record { takes = branches_taken } in
      record {
        takes = made_takes (λ v. branched v.0 v.1.0 v.1.1) (after (word_mark K.If) (after (sign_mark LeftParenthesis) (both (expression_sound fuel) (after (sign_mark RightParenthesis) branches)))) (Low (suc fuel)) (IsStatementIn block) Leaves
            (λ v f. branched_low v.0 v.1.0 v.1.1 f.0 f.1) (λ v xs d. branched_spelled block v.0 v.1.0 v.1.1 xs d) (λ v rest l. branched_leaves v.0 v.1.0 v.1.1 rest l);
      }

  abbrev Taken : Bool → List Token → StatementTree → List Token → Type 0
  Taken block ts s rest = IsTaken (Low (suc fuel)) (IsStatementIn block) Leaves ts s rest

  misfit_none : {A : Type 0} (ts : List Token) (x : A) → misfit ts ≡ done x → ⊥
  misfit_none [] x e = cc
  misfit_none (t ∷ ts) x e = cc

  pub by_first_taken : (block : Bool) (first : First) → (first ≡ F.Local → block ≡ true) → (ts : List Token) (s : StatementTree) (rest : List Token) → by_first below fuel first ts ≡ Ok (s, rest) → Taken block ts s rest
  unfolding empty
  by_first_taken block F.Empty ok ts s rest e = marked_takes Semicolon T.Empty (Low (suc fuel)) (IsStatementIn block) Leaves (omega arith) (λ xs d. d) closed ts s rest e
  by_first_taken block F.Local ok ts s rest e = subst (λ b. Taken b ts s rest) (sym (ok refl)) ((local_statement_sound fuel).takes ts s rest e)
  by_first_taken block F.Block ok ts s rest e = (block_statement_sound block).takes ts s rest e
  by_first_taken block F.Call ok ts s rest e = (call_statement_sound fuel block).takes ts s rest e
  by_first_taken block F.Assign ok ts s rest e = (assign_sound fuel block).takes ts s rest e
  by_first_taken block F.Store ok ts s rest e = (store_sound fuel block).takes ts s rest e
  by_first_taken block F.Step ok ts s rest e = (step_statement_sound fuel block).takes ts s rest e
  by_first_taken block F.If ok ts s rest e = (if_sound block).takes ts s rest e
  by_first_taken block F.While ok ts s rest e = (while_sound block).takes ts s rest e
  by_first_taken block F.Do ok ts s rest e = (do_sound block).takes ts s rest e
  by_first_taken block F.For ok ts s rest e = (for_sound block).takes ts s rest e
  by_first_taken block F.Break ok ts s rest e = (break_sound fuel block).takes ts s rest e
  by_first_taken block F.Continue ok ts s rest e = (continue_sound fuel block).takes ts s rest e
  by_first_taken block F.Return ok ts s rest e = (return_sound fuel block).takes ts s rest e
  by_first_taken block F.Other ok ts s rest e = absurd (misfit_none ts (s, rest) e)

-- ---- a local begins in a block alone

words_no_local : (a b c d e f g h : Bool) → cond a F.If (cond b F.While (cond c F.For (cond d F.Break (cond e F.Continue (cond f F.Return (cond g F.Do (cond h F.Step F.Other))))))) ≡ F.Local → ⊥
words_no_local true b c d e f g h local = cc
words_no_local false true c d e f g h local = cc
words_no_local false false true d e f g h local = cc
words_no_local false false false true e f g h local = cc
words_no_local false false false false true f g h local = cc
words_no_local false false false false false true g h local = cc
words_no_local false false false false false false true h local = cc
words_no_local false false false false false false false true local = cc
words_no_local false false false false false false false false local = cc

none_local : (a b c d e : Bool) (word : First) → (word ≡ F.Local → ⊥) → cond a F.Empty (cond b F.Block (cond c F.Call (cond d F.Store (cond e F.Assign word)))) ≡ F.Local → ⊥
none_local true b c d e word none h = cc
none_local false true c d e word none h = cc
none_local false false true d e word none h = cc
none_local false false false true e word none h = cc
none_local false false false false true word none h = cc
none_local false false false false false word none h = none h

pub local_in_block : (block : Bool) (ts : List Token) → first_of block ts ≡ F.Local → block ≡ true
unfolding first_of
local_in_block true ts e = refl
local_in_block false ts e =
    absurd (none_local (is_sign_next Semicolon ts) (is_sign_next LeftBrace ts) (is_call_next ts) (is_cell_next ts) (is_name_next ts) (first_word ts)
    (words_no_local (is_word_next K.If ts) (is_word_next K.While ts) (is_word_next K.For ts) (is_word_next K.Break ts) (is_word_next K.Continue ts) (is_word_next K.Return ts) (is_word_next K.Do ts) (is_step_next ts)) e)

too_high_none : (first : First) (ts : List Token) (x : StatementTree × List Token) → too_high first ts ≡ done x → ⊥
too_high_none F.Other [] x e = cc
too_high_none F.Other (t ∷ ts) x e = cc
too_high_none F.Empty ts x e = cc
too_high_none F.Local ts x e = cc
too_high_none F.Block ts x e = cc
too_high_none F.Call ts x e = cc
too_high_none F.Assign ts x e = cc
too_high_none F.Store ts x e = cc
too_high_none F.Step ts x e = cc
too_high_none F.If ts x e = cc
too_high_none F.While ts x e = cc
too_high_none F.Do ts x e = cc
too_high_none F.For ts x e = cc
too_high_none F.Break ts x e = cc
too_high_none F.Continue ts x e = cc
too_high_none F.Return ts x e = cc

pub statement_taken : (fuel : ℕ) (block : Bool) (ts : List Token) (s : StatementTree) (rest : List Token) → statement_at fuel block ts ≡ Ok (s, rest) → IsTaken (Low fuel) (IsStatementIn block) Leaves ts s rest
unfolding statement_at
statement_taken zero block ts s rest e = absurd (too_high_none (first_of block ts) ts (s, rest) e)
statement_taken (suc fuel) block ts s rest e =
    by_first_taken (statement_at fuel) fuel (λ b. record { takes = statement_taken fuel b }) block (first_of block ts) (local_in_block block ts) ts s rest e

pub statement_sound : (fuel : ℕ) (block : Bool) → IsSound (statement_at fuel block) (Low fuel) (IsStatementIn block) Leaves
statement_sound fuel block = record { takes = statement_taken fuel block }
