-- What a call leaves of a disk, and of a journal there.
use Rattle.std.specs.Prelude.{◌≡◌, ℕ, ◌+◌, List, ◌++◌, length, Result, OnOk, IsErrOf}
use Rattle.durable_model.specs.declared.disk.Disk as disks
use Rattle.durable_model.specs.declared.error.DiskError.{DiskError}
use Rattle.durable_model.specs.declared.error.DiskError.TheVariants.{NoMemory}
use Rattle.durable_model.specs.Honest.{MayWantMemory, Unchanged}
use Rattle.durable_model.specs.Moments.{LeavesOnly}
use Rattle.acceptor_log_form.specs.declared.header.Header.{Header}
use Rattle.acceptor_log_form.specs.declared.record.Record.{Record}
use Rattle.acceptor_log_form.specs.Lists.{Between}
use Rattle.acceptor_log_writing.specs.OneOf.{Either}
use Rattle.acceptor_log_reading.specs.declared.reading.Listed.{Listed}
use Rattle.acceptor_log_writing.specs.Written.{AreBlocks, MayTear}
use Rattle.acceptor_log.specs.Rest.{Rests}

module _ {D : Type 0} (disk : disks.Ghosts D) where
  -- it changed nothing of the disk
  abbrev pub Stays : D → D → Type 0
  Stays old new = Unchanged disk.seen disk.may_leave old new

  -- a crash at any moment of it leaves what it might have left before
  abbrev pub LeavesNothingNew : D → D → Type 0
  LeavesNothingNew old new = LeavesOnly disk.moment disk.left_since old new (disk.may_leave old)

  -- a crash at any moment of it leaves that, torn in so many bytes from `at` on or not
  abbrev pub TearsOnly : ℕ → ℕ → D → D → Type 0
  TearsOnly at n old new = LeavesOnly disk.moment disk.left_since old new (MayTear (disk.may_leave old) at n)

  -- a write of these bytes may be out of memory there
  abbrev pub WantsMemory : ℕ → List ℕ → D → Type 0
  WantsMemory at bytes old = MayWantMemory at (length bytes) (disk.seen old)

  -- a crash at any moment of it leaves a journal of all of low, and of none that high has not
  abbrev pub LeavesBetween : Header → List Record → List Record → D → D → Type 0
  LeavesBetween h low high old new = LeavesOnly disk.moment disk.left_since old new (Between h low high)

  -- a crash at any moment of it leaves a journal of just one of the two lists
  abbrev pub LeavesEither : Header → List Record → List Record → D → D → Type 0
  LeavesEither h low high old new = LeavesOnly disk.moment disk.left_since old new (Either h low high)

  -- the disk rests on those records that were listed
  abbrev pub RestsOnListed : D → Header → Listed → Type 0
  RestsOnListed now h found = Rests disk h found.records.items found.gate now

  -- of each list of so many records that it rests on
  abbrev pub ForRested : Header → ℕ → ℕ → D → (List Record → Type 0) → Type 0
  ForRested h count gate now P = (rs : List Record) → count ≡ length rs → Rests disk h rs gate now → P rs

  -- ---- these blocks are put behind the closed gate at `gate`
  module _ (gate : ℕ) (block : List ℕ) (old new : D) where
    -- of each list of records that the disk rested on, and those that it is the blocks of
    abbrev pub ForBlocks : (Header → List Record → List Record → Type 0) → Type 0
    ForBlocks P = (h : Header) (rs qs : List Record) → Rests disk h rs gate old → AreBlocks qs block → P h rs qs

    -- a crash at any moment of it leaves the records before, with all of those or with none
    abbrev pub LeavesWithOrWithout : Type 0
    LeavesWithOrWithout = ForBlocks (λ h rs qs. LeavesEither h rs (rs ++ qs) old new)

    -- where it succeeds the disk rests on them too
    abbrev pub PutsDown : {T : Type 0} → Result T DiskError → Type 0
    PutsDown result = ForBlocks (λ h rs qs. OnOk result (Rests disk h (rs ++ qs) (gate + length block) new))

    -- where it is out of memory it changed nothing
    abbrev pub StaysUnwritten : {T : Type 0} → Result T DiskError → Type 0
    StaysUnwritten result = ForBlocks (λ h rs qs. IsErrOf result NoMemory → Stays old new)
