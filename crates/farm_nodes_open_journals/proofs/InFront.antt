-- A read of a disk in front of a call.
use Rattle.std.proofs.Common.{◌≡◌, ◌↔◌, ℕ, List, Bool, true, false, subst, ◌∙◌}
use Rattle.std.specs.Prelude.{MatchBool}
use Rattle.durable_model.specs.declared.disk.Disk as disks
use Rattle.durable_model.specs.Honest.{Elapses, NothingNew, Unchanged}
use Rattle.durable_model.specs.Moments.{LeavesOnly, started, goes_on, composed}

pub when_true : (b : Bool) (A B : Type 0) → MatchBool b A B → b ≡ true → A
when_true b A B told is = subst (λ (t : Bool). MatchBool t A B) is told

pub when_false : (b : Bool) (A B : Type 0) → MatchBool b A B → b ≡ false → B
when_false b A B told is = subst (λ (t : Bool). MatchBool t A B) is told

pub both_ways : {A B C : Type 0} → (C ↔ B) → (B ↔ A) → C ↔ A
both_ways second first = (λ c. first.0 (second.0 c), λ a. second.1 (first.1 a))

module _ {D : Type 0} (disk : disks.Ghosts D) (old mid new : D) where
  pub unchanged_over : Unchanged disk.seen disk.may_leave old mid → Unchanged disk.seen disk.may_leave mid new → Unchanged disk.seen disk.may_leave old new
  unchanged_over first second = record {
    same = second.same ∙ first.same;
    nothing_new = λ c left. first.nothing_new c (second.nothing_new c left);
  }

module _ {D : Type 0} (disk : disks.Ghosts D) (old mid : D) where
  pub read_moment : ((c : List ℕ) → disk.left_since old (disk.moment old) c → disk.may_leave old c) → Elapses disk.moment disk.left_since disk.may_leave old mid → NothingNew (disk.may_leave old) (disk.may_leave mid) → LeavesOnly disk.moment disk.left_since old mid (disk.may_leave old)
  read_moment only_now time nothing_new =
      goes_on disk.moment disk.left_since old old mid (disk.may_leave old) disk.may_leave (started disk.moment disk.left_since old (disk.may_leave old) only_now) time nothing_new

  pub and_then : (new : D) → LeavesOnly disk.moment disk.left_since old mid (disk.may_leave old) → NothingNew (disk.may_leave old) (disk.may_leave mid) → LeavesOnly disk.moment disk.left_since mid new (disk.may_leave mid) → LeavesOnly disk.moment disk.left_since old new (disk.may_leave old)
  and_then new first nothing_new second =
      composed disk.moment disk.left_since old mid new (disk.may_leave old) (disk.may_leave mid) (disk.may_leave old) first second (λ c left. left) nothing_new
