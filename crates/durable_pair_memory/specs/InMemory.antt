-- What a pair of disks in memory stands for.
use Rattle.std.specs.Prelude.{◌≡◌, ◌≤◌, ◌+◌, ◌⊎◌, ℕ, List, [], refl}
use Rattle.std.proofs.Common.{inl, inr, subst, sym}
use Rattle.durable_model_writes.specs.declared.call.Call.{Call}
use Rattle.durable_model.specs.declared.memory.MemoryDisk.{MemoryDisk}
use Rattle.durable_model_writes.specs.declared.call.Call.TheVariants.{Left}
use Rattle.durable_model.specs.Memory.{history, seen_by_memory, memory_moment, memory_may_leave, left_as_kept}
use Rattle.durable_model.specs.Memory.{IsSettled, HasCapacity, NoneFails, IsPastCapacity, FailsAt, calls_made, Notes, StandsAs}
use Rattle.durable_pair_memory.specs.declared.memory.MemoryPair.{MemoryPair}
use Rattle.durable_pair.specs.Images.{Images, IsSpent, Shows, Both}
use Rattle.durable_pair.specs.Does.{Does}
use Rattle.durable_pair_memory.specs.Lockstep.{CutSince, cut_now, cut_only}

-- what a read of the new disk gives
abbrev pub seen_new : MemoryPair → List ℕ
seen_new pair = seen_by_memory pair.fresh

-- what a read of the old disk gives
abbrev pub seen_old : MemoryPair → List ℕ
seen_old pair = seen_by_memory pair.former

-- what a crash now may leave of the new disk, and of the old one
abbrev pub may_leave_new : MemoryPair → List ℕ → Type 0
may_leave_new pair = memory_may_leave pair.fresh

abbrev pub may_leave_old : MemoryPair → List ℕ → Type 0
may_leave_old pair = memory_may_leave pair.former

-- of both
abbrev pub may_leave_both : MemoryPair → Images → Type 0
may_leave_both = Both may_leave_new may_leave_old

-- how many calls were noted, on either disk
abbrev pub pair_moment : MemoryPair → ℕ
pair_moment pair = memory_moment pair.fresh

-- what a crash since t calls were made might have left of both at one moment
abbrev pub left_of_both_since : MemoryPair → ℕ → Images → Type 0
left_of_both_since pair =
    CutSince (history pair.fresh) (history pair.former) pair.fresh.first.items pair.former.first.items

-- a crash now leaves an old disk that counts no more
abbrev pub OldIsSpent : MemoryPair → Type 0
OldIsSpent pair = (d : List ℕ) → may_leave_old pair d → IsSpent d

-- what a crash now may leave that shows these bytes
abbrev pub may_show : MemoryPair → List ℕ → Type 0
may_show pair c = (im : Images) × may_leave_both pair im × Shows im c

-- what a crash since t calls were made might have left that shows these bytes
abbrev pub shown_since : MemoryPair → ℕ → List ℕ → Type 0
shown_since pair t c = (im : Images) × left_of_both_since pair t im × Shows im c

-- how many calls have failed
abbrev pub pair_faults : MemoryPair → ℕ
pair_faults pair = pair.failures

-- what a call on the new disk does, and one on the old disk
abbrev pub DoesNew : Call → List ℕ → MemoryPair → MemoryPair → Type 0
DoesNew = Does pair_moment left_of_both_since may_leave_both seen_new may_leave_new seen_old may_leave_old

abbrev pub DoesOld : Call → List ℕ → MemoryPair → MemoryPair → Type 0
DoesOld = Does pair_moment left_of_both_since may_leave_both seen_old may_leave_old seen_new may_leave_new

-- a call was noted on one of two disks, and beside it on the other that it was left as it was
pub record Steps (call : Call) (bytes : List ℕ) (this other this_now other_now : MemoryDisk) : Type 0 where
  pub notes : Notes call bytes this this_now
  pub beside : Notes Left [] other other_now

-- nothing was noted on either
pub record NotesNothing (this other this_now other_now : MemoryDisk) : Type 0 where
  pub same : StandsAs this this_now
  pub beside_same : StandsAs other other_now

-- the one or the other
abbrev pub Moves : Call → List ℕ → MemoryDisk → MemoryDisk → MemoryDisk → MemoryDisk → Type 0
Moves call bytes this other this_now other_now =
    Steps call bytes this other this_now other_now ⊎ NotesNothing this other this_now other_now

-- no call was made on either, and a crash leaves what reads give
pub record AreSettled (pair : MemoryPair) : Type 0 where
  pub fresh_is : IsSettled pair.fresh
  pub former_is : IsSettled pair.former

-- it can note so many calls, and so many bytes in the writes to each disk
pub record CanNote (calls bytes : ℕ) (pair : MemoryPair) : Type 0 where
  pub fresh_can : HasCapacity calls bytes pair.fresh
  pub former_can : HasCapacity calls bytes pair.former

-- no call is to fail, and it does not stop
pub record NeitherFails (pair : MemoryPair) : Type 0 where
  pub fresh_none : NoneFails pair.fresh
  pub former_none : NoneFails pair.former

-- A call on one disk that writes so many bytes fails now: one of them has no space to note it, or it is one of those that
-- are to fail.
abbrev pub MustFailBeside : ℕ → MemoryDisk → MemoryDisk → Type 0
MustFailBeside bytes this other =
    (IsPastCapacity bytes this ⊎ IsPastCapacity 0 other) ⊎ FailsAt (calls_made this + 1) this

-- a crash now leaves of both what reads give, if it so happens
pub both_as_kept : (pair : MemoryPair) → may_leave_both pair (seen_new pair, seen_old pair)
both_as_kept pair = (left_as_kept pair.fresh, left_as_kept pair.former)

pub both_count_now : (pair : MemoryPair) (t : ℕ) (im : Images) → t ≤ pair_moment pair → may_leave_both pair im
    → left_of_both_since pair t im
both_count_now pair t im since left =
    cut_now (history pair.fresh) (history pair.former) pair.fresh.first.items pair.former.first.items t im pair.lockstep
    since left.0 left.1

pub both_only_now : (pair : MemoryPair) (im : Images) → left_of_both_since pair (pair_moment pair) im
    → may_leave_both pair im
both_only_now pair im left =
    cut_only (history pair.fresh) (history pair.former) pair.fresh.first.items pair.former.first.items im pair.lockstep left

-- as one disk
pub shows_as_kept : (pair : MemoryPair) → OldIsSpent pair → may_show pair (seen_new pair)
shows_as_kept pair spent =
    let both = both_as_kept pair in ((seen_new pair, seen_old pair), both, inl (spent (seen_old pair) both.1, refl))

pub shows_count_now : (pair : MemoryPair) (t : ℕ) (c : List ℕ) → t ≤ pair_moment pair → may_show pair c → shown_since pair t c
shows_count_now pair t c since left = (left.0, both_count_now pair t left.0 since left.1, left.2)

pub shows_only_now : (pair : MemoryPair) (c : List ℕ) → shown_since pair (pair_moment pair) c → may_show pair c
shows_only_now pair c left = (left.0, both_only_now pair left.0 left.1, left.2)

-- what shows, where old counts no more, is what the new disk leaves
pub shown_is_new : (pair : MemoryPair) (c : List ℕ) → OldIsSpent pair → may_show pair c → may_leave_new pair c
shown_is_new pair c spent left =
    elim left.2 [
      | inl shown ↦ subst (may_leave_new pair) (sym shown.1) left.1.0
      | inr counts ↦ absurd (counts.0 (spent left.0.1 left.1.1))
    ]

-- and what that leaves shows
pub new_is_shown : (pair : MemoryPair) (c : List ℕ) → OldIsSpent pair → may_leave_new pair c → may_show pair c
new_is_shown pair c spent left =
    let old = left_as_kept pair.former in ((c, seen_old pair), (left, old), inl (spent (seen_old pair) old, refl))
