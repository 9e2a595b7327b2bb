-- The calls of two disks that are noted in lockstep, so that one moment cuts both lists at one length.
use Rattle.std.specs.Prelude.{◌≡◌, ◌≤◌, ℕ, List, [], ◌++◌, length, refl}
use Rattle.std.proofs.Common.{sym, ◌∙◌, ap, subst, arith, length-append}
use Rattle.std.proofs.lemmas.List.{nil_from_length}
use Rattle.durable_model_writes.specs.declared.call.Call.{Call}
use Rattle.durable_model_writes.specs.History.{MayLeave}
use Rattle.durable_pair.specs.Images.{Images}

-- calls with what they wrote, the last first
abbrev pub Calls : Type 0
Calls = List (Call × List ℕ)

-- what a crash might have left of both at some moment when t calls or more were done
pub record CutSince (fresh former : Calls) (first old_first : List ℕ) (t : ℕ) (im : Images) : Type 0 where
  pub later : Calls
  pub earlier : Calls
  pub old_later : Calls
  pub old_earlier : Calls
  pub whole : fresh ≡ later ++ earlier
  pub old_whole : former ≡ old_later ++ old_earlier
  pub one_moment : length earlier ≡ length old_earlier
  pub since : t ≤ length earlier
  pub left : MayLeave earlier first im.0
  pub old_left : MayLeave old_earlier old_first im.1

-- this moment is one of those since an earlier one
pub cut_now : (fresh former : Calls) (first old_first : List ℕ) (t : ℕ) (im : Images) → length fresh ≡ length former
    → t ≤ length fresh → MayLeave fresh first im.0 → MayLeave former old_first im.1
    → CutSince fresh former first old_first t im
cut_now fresh former first old_first t im same since left old_left = record {
  later = [];
  earlier = fresh;
  old_later = [];
  old_earlier = former;
  whole = refl;
  old_whole = refl;
  one_moment = same;
  since = since;
  left = left;
  old_left = old_left;
}

-- a cut of a whole list leaves none later
whole_cut : (calls later earlier : Calls) → calls ≡ later ++ earlier → length calls ≤ length earlier → calls ≡ earlier
whole_cut calls later earlier whole long =
    let none : later ≡ [] = nil_from_length later (omega (arith, long, ap length whole, length-append later earlier)) in
    whole ∙ ap (λ (l : Calls). l ++ earlier) none

-- since this moment there is no other
pub cut_only : (fresh former : Calls) (first old_first : List ℕ) (im : Images) → length fresh ≡ length former
    → CutSince fresh former first old_first (length fresh) im → MayLeave fresh first im.0 × MayLeave former old_first im.1
cut_only fresh former first old_first im same cut =
    let fresh_is = whole_cut fresh cut.later cut.earlier cut.whole cut.since in
    let former_is = whole_cut former cut.old_later cut.old_earlier cut.old_whole (omega (arith, same, cut.since, cut.one_moment)) in (
      subst (λ (h : Calls). MayLeave h first im.0) (sym fresh_is) cut.left,
      subst (λ (h : Calls). MayLeave h old_first im.1) (sym former_is) cut.old_left,
    )
