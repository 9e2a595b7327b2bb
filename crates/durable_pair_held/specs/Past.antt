-- What was done to the two files of a pair since they were opened, and what a crash may leave of them.
use Rattle.std.specs.Prelude.{◌≡◌, ◌≤◌, ◌⊎◌, ◌+◌, ◌-◌, ℕ, min, List, [], ◌∷◌, ◌++◌, length, take, drop, refl}
use Rattle.std.proofs.Common.{inl, inr, subst, sym, ap, arith, length-append}
use Rattle.std.proofs.lemmas.List.{nil_from_length}
use Rattle.durable_model_writes.specs.declared.call.Call.{Call}
use Rattle.durable_model_writes.specs.Writes.{overwritten, Torn}
use Rattle.durable_pair.specs.Images.{Images, IsSpent, Shows, Both}
use Rattle.durable_pair.specs.Does.{Does}
use Rattle.durable_pair_held.specs.declared.noted.Step.{Step}
use Rattle.durable_pair_held.specs.declared.noted.Step.TheVariants.{Write, Sync}
use Rattle.durable_pair_held.specs.declared.noted.Noted.{Noted}
use Rattle.durable_pair_held.specs.declared.noted.Noted.TheVariants.{New, Old}

-- a file: what a read gives, and the bytes that the writes to it wrote over, one after another
abbrev pub Content : Type 0
Content = List ℕ × List ℕ

-- What it was before a write of n bytes, when it had so many: the bytes before the range of the write, those that it wrote
-- over, and those behind.
abbrev pub unwritten : ℕ → ℕ → ℕ → Content → Content
unwritten at n len f =
    let k = length f.1 - min n (len - at) in (take (min at len) f.0 ++ drop k f.1 ++ drop (at + n) (take len f.0), take k f.1)

abbrev pub before : Step → Content → Content
before (Write at n len) f = unwritten at n len f
before Sync f = f

-- what it was before these, the last first
abbrev pub back : List Step → Content → Content
back [] f = f
back (last ∷ earlier) f = back earlier (before last f)

-- What a crash may leave after these, the last first: what a read gives, and after a write what a crash before it might have
-- left, torn by it.
abbrev pub IsLeftBehind : List Step → Content → List ℕ → Type 0
IsLeftBehind [] f c = c ≡ f.0
IsLeftBehind (Write at n len ∷ earlier) f c = (c ≡ f.0) ⊎ ((d : List ℕ) × IsLeftBehind earlier (unwritten at n len f) d × Torn at n d c)
IsLeftBehind (Sync ∷ earlier) f c = c ≡ f.0

-- what was done to the new file, and to the old one
abbrev pub of_new : List Noted → List Step
of_new [] = []
of_new (New step ∷ notes) = step ∷ of_new notes
of_new (Old step ∷ notes) = of_new notes

abbrev pub of_old : List Noted → List Step
of_old [] = []
of_old (New step ∷ notes) = of_old notes
of_old (Old step ∷ notes) = step ∷ of_old notes

-- the files now, and what was done to them, the last first
pub record Past : Type 0 where
  pub notes : List Noted
  pub new : Content
  pub old : Content

-- this step more of the new file, or of the old one, which made it so
abbrev pub more_new : Step → Content → Past → Past
more_new step f p = record { notes = New step ∷ p.notes; new = f; old = p.old }

abbrev pub more_old : Step → Content → Past → Past
more_old step f p = record { notes = Old step ∷ p.notes; new = p.new; old = f }

-- a write was done over a file, and the bytes that it wrote over were kept
pub record PutsOver (at : ℕ) (bytes file lost : List ℕ) (step : Step) (file_now lost_now : List ℕ) : Type 0 where
  pub step_is : step ≡ Write at (length bytes) (length file)
  pub file_is : file_now ≡ overwritten file at bytes
  pub lost_is : lost_now ≡ lost ++ take (length bytes) (drop at file)

-- what reads give
abbrev pub seen_new : Past → List ℕ
seen_new p = p.new.0

abbrev pub seen_old : Past → List ℕ
seen_old p = p.old.0

-- what a crash now may leave of the new file, of the old one, and of both
abbrev pub may_leave_new : Past → List ℕ → Type 0
may_leave_new p = IsLeftBehind (of_new p.notes) p.new

abbrev pub may_leave_old : Past → List ℕ → Type 0
may_leave_old p = IsLeftBehind (of_old p.notes) p.old

abbrev pub may_leave_both : Past → Images → Type 0
may_leave_both = Both may_leave_new may_leave_old

-- how many calls were noted
abbrev pub moment : Past → ℕ
moment p = length p.notes

-- what a crash might have left of both at some moment when t calls or more were done
pub record LeftSince (p : Past) (t : ℕ) (im : Images) : Type 0 where
  pub later : List Noted
  pub earlier : List Noted
  pub whole : p.notes ≡ later ++ earlier
  pub since : t ≤ length earlier
  pub left : IsLeftBehind (of_new earlier) (back (of_new later) p.new) im.0
  pub old_left : IsLeftBehind (of_old earlier) (back (of_old later) p.old) im.1

-- a crash now leaves an old file that counts no more
abbrev pub OldIsSpent : Past → Type 0
OldIsSpent p = (d : List ℕ) → may_leave_old p d → IsSpent d

-- what a crash now may leave that shows these bytes, and what one since t calls were made might have left
abbrev pub may_show : Past → List ℕ → Type 0
may_show p c = (im : Images) × may_leave_both p im × Shows im c

abbrev pub shown_since : Past → ℕ → List ℕ → Type 0
shown_since p t c = (im : Images) × LeftSince p t im × Shows im c

-- what a call on the new file does, and one on the old file
abbrev pub DoesNew : Call → List ℕ → Past → Past → Type 0
DoesNew = Does moment LeftSince may_leave_both seen_new may_leave_new seen_old may_leave_old

abbrev pub DoesOld : Call → List ℕ → Past → Past → Type 0
DoesOld = Does moment LeftSince may_leave_both seen_old may_leave_old seen_new may_leave_new

-- a crash now leaves what reads give, if it so happens
leaves_seen : (steps : List Step) (f : Content) → IsLeftBehind steps f f.0
leaves_seen [] f = refl
leaves_seen (Write at n len ∷ earlier) f = inl refl
leaves_seen (Sync ∷ earlier) f = refl

pub both_as_kept : (p : Past) → may_leave_both p (seen_new p, seen_old p)
both_as_kept p = (leaves_seen (of_new p.notes) p.new, leaves_seen (of_old p.notes) p.old)

-- this moment is one of those since an earlier one
pub both_count_now : (p : Past) (t : ℕ) (im : Images) → t ≤ moment p → may_leave_both p im → LeftSince p t im
both_count_now p t im since left =
    record { later = []; earlier = p.notes; whole = refl; since = since; left = left.0; old_left = left.1 }

-- since this moment there is no other
none_since : (p : Past) (im : Images) (later earlier : List Noted) → p.notes ≡ later ++ earlier → later ≡ []
    → IsLeftBehind (of_new earlier) (back (of_new later) p.new) im.0 → IsLeftBehind (of_old earlier) (back (of_old later) p.old) im.1
    → may_leave_both p im
none_since p im [] earlier whole none left old_left = (
  subst (λ (notes : List Noted). IsLeftBehind (of_new notes) p.new im.0) (sym whole) left,
  subst (λ (notes : List Noted). IsLeftBehind (of_old notes) p.old im.1) (sym whole) old_left,
)
none_since p im (note ∷ later) earlier whole none left old_left = absurd (omega (arith, ap length none))

pub both_only_now : (p : Past) (im : Images) → LeftSince p (moment p) im → may_leave_both p im
both_only_now p im cut =
    let none : cut.later ≡ [] =
    nil_from_length cut.later (omega (arith, cut.since, ap length cut.whole, length-append cut.later cut.earlier)) in
    none_since p im cut.later cut.earlier cut.whole none cut.left cut.old_left

-- as one disk
pub shows_as_kept : (p : Past) → OldIsSpent p → may_show p (seen_new p)
shows_as_kept p spent =
    let both = both_as_kept p in ((seen_new p, seen_old p), both, inl (spent (seen_old p) both.1, refl))

pub shows_count_now : (p : Past) (t : ℕ) (c : List ℕ) → t ≤ moment p → may_show p c → shown_since p t c
shows_count_now p t c since left = (left.0, both_count_now p t left.0 since left.1, left.2)

pub shows_only_now : (p : Past) (c : List ℕ) → shown_since p (moment p) c → may_show p c
shows_only_now p c left = (left.0, both_only_now p left.0 left.1, left.2)

-- what shows, where old counts no more, is what the new file leaves
pub shown_is_new : (p : Past) (c : List ℕ) → OldIsSpent p → may_show p c → may_leave_new p c
shown_is_new p c spent left =
    elim left.2 [
      | inl shown ↦ subst (may_leave_new p) (sym shown.1) left.1.0
      | inr counts ↦ absurd (counts.0 (spent left.0.1 left.1.1))
    ]

-- and what that leaves shows
pub new_is_shown : (p : Past) (c : List ℕ) → OldIsSpent p → may_leave_new p c → may_show p c
new_is_shown p c spent left =
    let old = (both_as_kept p).1 in ((c, seen_old p), (left, old), inl (spent (seen_old p) old, refl))
