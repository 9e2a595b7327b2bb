-- What a write wrote over makes the file what it was before it.
use Rattle.std.proofs.Common.{◌≡◌, ◌<◌, ◌≤◌, ◌+◌, ◌-◌, ℕ, zero, suc, min, List, ◌++◌, length, take, drop, refl, sym, ◌∙◌, ap, arith, length-append, take-append-drop, length-drop, lt_of_not-le}
use Rattle.std.proofs.lemmas.List.{length-take, take_at, drop_at, take_rest, drop-take, drop_all}
use Rattle.std.proofs.Math.Seq.{take-add}
use native.Mathlib.Decide.{dec_le}
use Rattle.durable_model_writes.specs.Writes.{overwritten, Torn, torn_overwritten}
use Rattle.durable_pair_held.specs.declared.noted.Step.{Step}
use Rattle.durable_pair_held.specs.Past.{unwritten, before, PutsOver}

-- behind the range of the write it is as it was, within its length
rest_by : (file now : List ℕ) (m : ℕ) → Dec (m ≤ length file) → drop m now ≡ drop m file → drop m (take (length file) now) ≡ drop m file
rest_by file now m (yes within) same =
    let long : length file ≡ m + (length file - m) = omega (arith, within) in
    ap (λ (k : ℕ). drop m (take k now)) long
    ∙ drop-take m (length file - m) now
    ∙ ap (take (length file - m)) same
    ∙ take_rest file m
rest_by file now m (no past) same =
    let short : length file < m = lt_of_not-le past in
    drop_all m (take (length file) now) (omega (arith, short, length-take (length file) now))
    ∙ sym (drop_all m file (omega (arith, short)))

rest_same : (file now : List ℕ) (m : ℕ) → drop m now ≡ drop m file → drop m (take (length file) now) ≡ drop m file
rest_same file now m = rest_by file now m (dec_le m (length file))

behind : (file now : List ℕ) (at n : ℕ) → Torn at n file now → drop (at + n) now ≡ drop (at + n) file
behind file now at zero torn = ap (drop (at + zero)) (torn.nothing refl)
behind file now at (suc n) torn = torn.after (omega arith)

-- the three parts of a file
parts : (file : List ℕ) (at n : ℕ) → take at file ++ take n (drop at file) ++ drop (at + n) file ≡ file
parts file at n =
    ap (λ (l : List ℕ). l ++ drop (at + n) file) (sym (take-add at n file))
    ∙ take-append-drop (at + n) file

module _ (file now lost : List ℕ) (at n : ℕ) where
  kept : length (lost ++ take n (drop at file)) - min n (length file - at) ≡ length lost
  kept = omega (arith, length-append lost (take n (drop at file)), length-take n (drop at file), length-drop at file)

  pub undone : Torn at n file now → unwritten at n (length file) (now, lost ++ take n (drop at file)) ≡ (file, lost)
  undone torn =
      let part = take n (drop at file) in
      let back : drop (length (lost ++ part) - min n (length file - at)) (lost ++ part) ≡ part =
      drop_at lost part (length (lost ++ part) - min n (length file - at)) (sym kept) in
      let seen : take (min at (length file)) now ++ drop (length (lost ++ part) - min n (length file - at)) (lost ++ part) ++ drop (at + n) (take (length file) now) ≡ file =
      ap (λ (l : List ℕ). l ++ drop (length (lost ++ part) - min n (length file - at)) (lost ++ part) ++ drop (at + n) (take (length file) now)) torn.before
      ∙ ap (λ (l : List ℕ). take at file ++ l ++ drop (at + n) (take (length file) now)) back
      ∙ ap (λ (l : List ℕ). take at file ++ part ++ l) (rest_same file now (at + n) (behind file now at n torn))
      ∙ parts file at n in
      let rest : take (length (lost ++ part) - min n (length file - at)) (lost ++ part) ≡ lost =
      take_at lost part (length (lost ++ part) - min n (length file - at)) (sym kept) in
      λ i. (seen i, rest i)

-- so a write that was done
module _ (at : ℕ) (bytes file lost : List ℕ) (step : Step) (file_now lost_now : List ℕ) (over : PutsOver at bytes file lost step file_now lost_now) where
  pub written_before : before step (file_now, lost_now) ≡ (file, lost)
  written_before =
      ap (λ (s : Step). before s (file_now, lost_now)) over.step_is
      ∙ ap (λ (f : List ℕ). unwritten at (length bytes) (length file) (f, lost_now)) over.file_is
      ∙ ap (λ (l : List ℕ). unwritten at (length bytes) (length file) (overwritten file at bytes, l)) over.lost_is
      ∙ undone file (overwritten file at bytes) lost at (length bytes) (torn_overwritten file at bytes)
