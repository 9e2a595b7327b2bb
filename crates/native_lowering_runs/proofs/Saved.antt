-- A function saves the registers of its caller that it writes.
use Rattle.std.proofs.Common.{◌≡◌, ◌⊎◌, ℕ, zero, suc, ◌<◌, ◌≤◌, Bool, true, false, List, [], ◌∷◌, length, Option, Some, refl, sym, ap, subst, ◌∙◌, arith, inl, inr}
use Rattle.std.specs.Prelude.{nat_eq, slice_get, slice_index, slice_set}
use Rattle.std.specs.List.{list_any}
use Rattle.std.proofs.lemmas.Bool.{or_left, or_right, eqb-true, eq-eqb, false≢true}
use Rattle.std.proofs.lemmas.List.{get_or-set_other}
use Rattle.lang_base.specs.declared.program.Program.{Program}
use Rattle.locations.specs.declared.location.Location.TheVariants.{InRegister}
use Rattle.machine.specs.Frames.{Frame as Caller}
use Rattle.linear_language.specs.declared.instruction.Instruction.{Instruction}
use Rattle.linear_language.specs.Function.{FunctionData}
use Rattle.x86_state.specs.declared.cell.Cell.{Cell}
use Rattle.x86_state.specs.declared.cell.Spot.{Spot}
use Rattle.native_lowering_definition.specs.Frames.{frame_of, writes, target_of, is_there, is_register}
use Rattle.native_lowering_relation.specs.Standing.{put_back}
use Rattle.native_lowering_relation.specs.Waiting.{Wait}
use Rattle.native_lowering_relation.proofs.Kept.{Among, SameOr, same_put, length-put_back}
use Rattle.native_lowering_relation.proofs.Waiting.{wait_kept}
use Rattle.native_lowering_runs.proofs.Lists.{any_at, among_filter}

among_four : (r : ℕ) → 4 ≤ r → r < 8 → Among r (4 ∷ 5 ∷ 6 ∷ 7 ∷ [])
among_four zero high low = absurd (omega arith)
among_four (suc zero) high low = absurd (omega arith)
among_four (suc (suc zero)) high low = absurd (omega arith)
among_four (suc (suc (suc zero))) high low = absurd (omega arith)
among_four (suc (suc (suc (suc zero)))) high low = inl refl
among_four (suc (suc (suc (suc (suc zero))))) high low = inr (inl refl)
among_four (suc (suc (suc (suc (suc (suc zero)))))) high low = inr (inr (inl refl))
among_four (suc (suc (suc (suc (suc (suc (suc zero))))))) high low = inr (inr (inr (inl refl)))
among_four (suc (suc (suc (suc (suc (suc (suc (suc r)))))))) high low = absurd (omega arith)

pub written_saved : (f : FunctionData) (r : ℕ) → writes f r ≡ true → 4 ≤ r → r < 8 → Among r (frame_of f).saved
written_saved f r wrote high low = among_filter (writes f) (4 ∷ 5 ∷ 6 ∷ 7 ∷ []) r wrote (among_four r high low)

-- by an instruction
pub target_written : (f : FunctionData) (n r : ℕ) (i : Instruction) → slice_get f.code n ≡ Some i → target_of i ≡ Some (InRegister r) → writes f r ≡ true
target_written f n r i at target =
    or_right (list_any (is_register r) f.parameters) (list_any (λ j. is_there r (target_of j)) f.code)
    (any_at (λ j. is_there r (target_of j)) f.code n i at (ap (is_there r) target ∙ eq-eqb r r refl))

-- as a parameter
pub parameter_written : (f : FunctionData) (k r : ℕ) → slice_get f.parameters k ≡ Some (InRegister r) → writes f r ≡ true
parameter_written f k r at =
    or_left (list_any (is_register r) f.parameters) (list_any (λ j. is_there r (target_of j)) f.code)
    (any_at (is_register r) f.parameters k (InRegister r) at (eq-eqb r r refl))

-- ---- what is kept

pub or_same : (rs words words' : List ℕ) → words' ≡ words → SameOr rs words words'
or_same rs words words' e = λ q low high. inr (ap (λ (ws : List ℕ). slice_index ws q) e)

pub or_then : (rs a b c : List ℕ) → SameOr rs a b → SameOr rs b c → SameOr rs a c
or_then rs a b c first second = λ q low high. by q (first q low high) (second q low high)
  where
    by : (q : ℕ) → Among q rs ⊎ (slice_index b q ≡ slice_index a q) → Among q rs ⊎ (slice_index c q ≡ slice_index b q) → Among q rs ⊎ (slice_index c q ≡ slice_index a q)
    by q (inl among) y = inl among
    by q (inr e) (inl among) = inl among
    by q (inr e) (inr f) = inr (f ∙ e)

or_written_at : (rs words : List ℕ) (r w q : ℕ) → (4 ≤ r → r < 8 → Among r rs) → 4 ≤ q → q < 8 → (b : Bool) → nat_eq q r ≡ b
    → Among q rs ⊎ (slice_index (slice_set words r w) q ≡ slice_index words q)
or_written_at rs words r w q saved low high true e =
    let same : q ≡ r = eqb-true q r e in
    inl (subst (λ k. Among k rs) (sym same) (saved (subst (λ k. 4 ≤ k) same low) (subst (λ k. k < 8) same high)))
or_written_at rs words r w q saved low high false e =
    inr (get_or-set_other words r q w 0 (λ h. false≢true (sym e ∙ eq-eqb q r h)))

-- a register is written that is saved, or is none of those that are kept
pub or_written : (rs words : List ℕ) (r w : ℕ) → (4 ≤ r → r < 8 → Among r rs) → SameOr rs words (slice_set words r w)
or_written rs words r w saved = λ q low high. or_written_at rs words r w q saved low high (nat_eq q r) refl

pub or_scratch : (rs words : List ℕ) (r w : ℕ) → 8 ≤ r → SameOr rs words (slice_set words r w)
or_scratch rs words r w high = or_written rs words r w (λ low below. absurd (omega arith))

-- the callers wait as before
pub callers_wait : (p : Program FunctionData) (callers : List Caller) (back : Option Spot) (rs saved words words' : List ℕ) (under : List Cell)
    → length words ≡ 13 → length words' ≡ 13 → length saved ≡ length rs → SameOr rs words words'
    → Wait p callers back (put_back rs saved words) under → Wait p callers back (put_back rs saved words') under
callers_wait p callers back rs saved words words' under full full' count same wait =
    wait_kept p callers back (put_back rs saved words) (put_back rs saved words') under (length-put_back rs saved words' ∙ full') (same_put rs saved words words' full full' count same) wait
