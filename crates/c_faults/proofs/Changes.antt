-- A change has a gap exactly where it fails.
use Rattle.std.proofs.Common.{◌≡◌, ℕ, cond, ltb, Bool, true, false, not, List, [], ◌∷◌, ◌++◌, ◌%◌, length, Option, Some, None, is_some, slice_get, refl, sym, ap, ◌∙◌}
use Rattle.std.specs.Prelude.{option_and_then, slice_set, nat_lt}
use Rattle.std.specs.Option.{option_map, option_or}
use Rattle.std.proofs.lemmas.Bool.{ltb-true, ltb-false}
use Rattle.std.proofs.lemmas.Option.{slice_get_past, slice_get-get_or}
use Rattle.ints.specs.declared.operators.Op.{Op}
use Rattle.c_program.specs.declared.action.Target.{Target}
use Rattle.c_program.specs.declared.action.Target.TheVariants.{Nowhere, Local, Global, Caller}
use Rattle.c_program.specs.declared.function.Ending.{Ending}
use Rattle.c_program.specs.declared.function.Ending.TheVariants as E
use Rattle.c_program.specs.Trees.{TermTree}
use Rattle.c_program.specs.Values.{cell_of, computed, on_two}
use Rattle.c_program.specs.State.{State, variables, word, put_in, put_cell}
use Rattle.c_program.specs.Meaning.{Outcome, Falls, Breaks, Continues, Returns, RunsOut, Fails, with_globals, stores, updates, arrives, yields, puts, hands_back, resumed, comes_back, ends, reaches}
use Rattle.c_faults.specs.declared.cause.Cause.TheVariants.{Past, Two}
use Rattle.c_faults.specs.declared.gap.Gap.{Gap}
use Rattle.c_faults.specs.Places.{own, others, behind}
use Rattle.c_faults.specs.Gaps.{unless_there, cell_gap, two_gap}
use Rattle.c_faults.specs.Changes.{gap_in, store_gap, update_gap, arrival_gap, return_gap, back_gap, reached_gap, end_gap}
use Rattle.c_faults.proofs.Gaps.{Tells, not_none, not_both, unless-tells, gap-tells}

-- whether an outcome is that of a run that goes wrong
abbrev pub fails : Outcome → Bool
fails (Falls s) = false
fails (Breaks s) = false
fails (Continues s) = false
fails (Returns w s) = false
fails (RunsOut printed) = false
fails (Fails printed) = true

-- there is a gap exactly where the outcome fails
abbrev pub Explains : {A : Type 0} → Option A → Outcome → Type 0
Explains found o = is_some found ≡ fails o

within : (xs : List ℕ) (i : ℕ) → ltb i (length xs) ≡ is_some (slice_get xs i)
within xs i = at (ltb i (length xs)) refl
  where
    at : (b : Bool) → ltb i (length xs) ≡ b → b ≡ is_some (slice_get xs i)
    at true e = sym (ap is_some (slice_get-get_or xs i 0 (ltb-true i (length xs) e)))
    at false e = sym (ap is_some (slice_get_past xs i (ltb-false i (length xs) e)))

put-there : (cells : Option (List ℕ)) (globals : List (List ℕ)) (g i w : ℕ) →
    is_some (option_map (slice_set globals g) (option_and_then (put_in i w) cells)) ≡ is_some (option_and_then (λ found. slice_get found i) cells)
put-there None globals g i w = refl
put-there (Some cells) globals g i w = at (nat_lt i (length cells)) ∙ within cells i
  where
    at : (b : Bool) → is_some (option_map (slice_set globals g) (cond b (Some (slice_set cells i w)) None)) ≡ b
    at true = refl
    at false = refl

globals-tell : (s : State) (found : Option (List (List ℕ))) → fails (with_globals s found) ≡ not (is_some found)
globals-tell s None = refl
globals-tell s (Some globals) = refl

-- a cell is stored to exactly where it is there
stored : (s : State) (g i w : ℕ) → fails (stores g s (Some i) (Some w)) ≡ not (is_some (cell_of s.globals g i))
stored s g i w = globals-tell s (put_cell s.globals g i w) ∙ ap not (put-there (slice_get s.globals g) s.globals g i w)

cell-explains : (at : ℕ) (s : State) (g i w : ℕ) → Explains (cell_gap at s.globals g (Some i)) (stores g s (Some i) (Some w))
cell-explains at s g i w = unless-tells (cell_of s.globals g i) _ at ∙ sym (stored s g i w)

or_none : {A : Type 0} (found : Option A) → is_some (option_or found None) ≡ is_some found
or_none None = refl
or_none (Some x) = refl

or_found : {A : Type 0} (p q : Option A) → is_some q ≡ true → is_some (option_or p q) ≡ true
or_found None q e = e
or_found (Some x) q e = refl

-- a store, by the gaps of its index and of its word
stores-explains : (p q : Option Gap) (at g : ℕ) (s : State) (i w : Option ℕ) → Tells p i → Tells q w →
    Explains (option_or p (option_or (cell_gap at s.globals g i) q)) (stores g s i w)
stores-explains None q at g s None w e f = not_none e
stores-explains (Some p) q at g s None w e f = refl
stores-explains (Some p) q at g s (Some i) w e f = not_both e
stores-explains None q at g s (Some i) None e f = or_found (cell_gap at s.globals g (Some i)) q f
stores-explains None (Some q) at g s (Some i) (Some w) e f = not_both f
stores-explains None None at g s (Some i) (Some w) e f = or_none (cell_gap at s.globals g (Some i)) ∙ cell-explains at s g i w

pub store-explains : (ps : List ℕ) (g : ℕ) (i e : TermTree) (s : State) → Explains (store_gap ps g i e s) (stores g s (word i s) (word e s))
store-explains ps g i e s =
    stores-explains (gap_in (others ps) i s) (gap_in (behind i (others ps)) e s) (own ps) g s (word i s) (word e s)
    (gap-tells (others ps) (variables s) i) (gap-tells (behind i (others ps)) (variables s) e)

-- what is stored by an update, by what the cell holds
updated : (p : Option Gap) (at here g i : ℕ) (o : Op) (s : State) (h w : Option ℕ) → h ≡ cell_of s.globals g i → Tells p w →
    Explains (option_or (cell_gap here s.globals g (Some i)) (option_or p (two_gap at o h w))) (stores g s (Some i) (on_two o h w))
updated p at here g i o s None w same e =
    ap (λ c. is_some (option_or (unless_there c (Past g i) here) (option_or p None))) (sym same)
updated (Some p) at here g i o s (Some h) None same e = or_found (cell_gap here s.globals g (Some i)) (Some p) refl
updated None at here g i o s (Some h) None same e = not_none e
updated (Some p) at here g i o s (Some h) (Some w) same e = not_both e
updated None at here g i o s (Some h) (Some w) same e =
    ap (λ c. is_some (option_or (unless_there c (Past g i) here) (two_gap at o (Some h) (Some w)))) (sym same) ∙ put (computed o (h ∷ w ∷ []))
  where
    put : (given : Option ℕ) → is_some (unless_there given (Two o h w) at) ≡ fails (stores g s (Some i) given)
    put None = refl
    put (Some v) = sym (stored s g i v ∙ ap (λ c. not (is_some c)) (sym same))

updates-explains : (p q : Option Gap) (at here g : ℕ) (o : Op) (s : State) (i w : Option ℕ) → Tells p i → Tells q w →
    Explains (option_or p (option_or (cell_gap here s.globals g i) (option_or q (two_gap at o (option_and_then (cell_of s.globals g) i) w)))) (updates g o s i w)
updates-explains None q at here g o s None w e f = not_none e
updates-explains (Some p) q at here g o s None w e f = refl
updates-explains (Some p) q at here g o s (Some i) w e f = not_both e
updates-explains None q at here g o s (Some i) w e f = updated q at here g i o s (cell_of s.globals g i) w refl f

pub update-explains : (ps : List ℕ) (g : ℕ) (i : TermTree) (o : Op) (e : TermTree) (s : State) →
    Explains (update_gap ps g i o e s) (updates g o s (word i s) (word e s))
update-explains ps g i o e s =
    let parts = others (others ps) in
    updates-explains (gap_in parts i s) (gap_in (behind i parts) e s) (own (others ps)) (own ps) g o s (word i s) (word e s)
    (gap-tells parts (variables s) i) (gap-tells (behind i parts) (variables s) e)

pub arrival-explains : (at : ℕ) (target : Target) (w : ℕ) (s : State) → Explains (arrival_gap at target s) (arrives target w s)
arrival-explains at Nowhere w s = refl
arrival-explains at (Local n) w s = refl
arrival-explains at (Global g) w s = cell-explains at s g 0 w
arrival-explains at Caller w s = refl

pub yields-explains : (p : Option Gap) (at : ℕ) (target : Target) (s : State) (w : Option ℕ) → Tells p w →
    Explains (option_or p (arrival_gap at target s)) (yields target s w)
yields-explains None at target s None e = not_none e
yields-explains (Some p) at target s None e = refl
yields-explains (Some p) at target s (Some w) e = not_both e
yields-explains None at target s (Some w) e = arrival-explains at target w s

arrival-same : (at : ℕ) (target : Target) (s : State) (printed : List ℕ) → arrival_gap at target (record s { output = printed }) ≡ arrival_gap at target s
arrival-same at Nowhere s printed = refl
arrival-same at (Local n) s printed = refl
arrival-same at (Global g) s printed = refl
arrival-same at Caller s printed = refl

pub puts-explains : (p : Option Gap) (at : ℕ) (target : Target) (s : State) (w : Option ℕ) → Tells p w →
    Explains (option_or p (arrival_gap at target s)) (puts target s w)
puts-explains None at target s None e = not_none e
puts-explains (Some p) at target s None e = refl
puts-explains (Some p) at target s (Some w) e = not_both e
puts-explains None at target s (Some w) e =
    ap is_some (sym (arrival-same at target s (s.output ++ w % 256 ∷ [])))
    ∙ arrival-explains at target (w % 256) (record s { output = s.output ++ w % 256 ∷ [] })

return-explains : (at : ℕ) (target : Target) (w : Option ℕ) (s : State) → Explains (return_gap at target w s) (hands_back target w s)
return-explains at Nowhere None s = refl
return-explains at (Local n) None s = refl
return-explains at (Global g) None s = refl
return-explains at Caller None s = refl
return-explains at Nowhere (Some w) s = refl
return-explains at (Local n) (Some w) s = refl
return-explains at (Global g) (Some w) s = arrival-explains at (Global g) w s
return-explains at Caller (Some w) s = refl

return-same : (at : ℕ) (target : Target) (w : Option ℕ) (locals : List (Option ℕ)) (s : State) →
    return_gap at target w (resumed locals s) ≡ return_gap at target w s
return-same at Nowhere None locals s = refl
return-same at (Local n) None locals s = refl
return-same at (Global g) None locals s = refl
return-same at Caller None locals s = refl
return-same at Nowhere (Some w) locals s = refl
return-same at (Local n) (Some w) locals s = refl
return-same at (Global g) (Some w) locals s = refl
return-same at Caller (Some w) locals s = refl

-- a callee that fails has a fault of its own
pub back-explains : {A : Type 0} (found : Option A) (told : Option Gap → Option A) → ((g : Option Gap) → is_some (told g) ≡ is_some g) →
    (at : ℕ) (target : Target) (locals : List (Option ℕ)) (o : Outcome) → Explains found o →
    Explains (option_or found (told (back_gap at target o))) (comes_back target locals o)
back-explains found told same at target locals (Falls s) e = or_found found (told (back_gap at target (Falls s))) (same _)
back-explains found told same at target locals (Breaks s) e = or_found found (told (back_gap at target (Breaks s))) (same _)
back-explains found told same at target locals (Continues s) e = or_found found (told (back_gap at target (Continues s))) (same _)
back-explains None told same at target locals (Returns w s) e =
    same (return_gap at target w s) ∙ ap is_some (sym (return-same at target w locals s)) ∙ return-explains at target w (resumed locals s)
back-explains (Some x) told same at target locals (Returns w s) e = not_both e
back-explains None told same at target locals (RunsOut printed) e = same None
back-explains (Some x) told same at target locals (RunsOut printed) e = not_both e
back-explains None told same at target locals (Fails printed) e = not_none e
back-explains (Some x) told same at target locals (Fails printed) e = refl

reached-explains : (at : ℕ) (ending : Ending) (s : State) → Explains (reached_gap at ending) (reaches ending s)
reached-explains at E.Returns s = refl
reached-explains at E.ReturnsZero s = refl
reached-explains at E.GoesWrong s = refl

-- a body that fails has a fault of its own
pub end-explains : {A : Type 0} (found : Option A) (told : Option Gap → Option A) → ((g : Option Gap) → is_some (told g) ≡ is_some g) →
    (at : ℕ) (ending : Ending) (o : Outcome) → Explains found o → Explains (option_or found (told (end_gap at ending o))) (ends ending o)
end-explains None told same at ending (Falls s) e = same (reached_gap at ending) ∙ reached-explains at ending s
end-explains (Some x) told same at ending (Falls s) e = not_both e
end-explains found told same at ending (Breaks s) e = or_found found (told (end_gap at ending (Breaks s))) (same _)
end-explains found told same at ending (Continues s) e = or_found found (told (end_gap at ending (Continues s))) (same _)
end-explains None told same at ending (Returns w s) e = same None
end-explains (Some x) told same at ending (Returns w s) e = not_both e
end-explains None told same at ending (RunsOut printed) e = same None
end-explains (Some x) told same at ending (RunsOut printed) e = not_both e
end-explains None told same at ending (Fails printed) e = not_none e
end-explains (Some x) told same at ending (Fails printed) e = refl
