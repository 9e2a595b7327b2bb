-- What a call on one disk of a pair does, to that disk and to the other one.
use Rattle.std.specs.Prelude.{◌≡◌, ◌↔◌, ℕ, List, [], length, Result, OnOk, OnErr, IsErrOf}
use Rattle.durable_model_writes.specs.declared.call.Call.{Call}
use Rattle.durable_model_writes.specs.declared.call.Call.TheVariants.{Wrote, Tore, Synced, Left}
use Rattle.durable_model_writes.specs.Writes.{overwritten, Torn}
use Rattle.durable_model_writes.specs.History.{MayLeaveAfter}
use Rattle.durable_model.specs.declared.disk.Disk as disks
use Rattle.durable_model.specs.declared.error.DiskError.{DiskError}
use Rattle.durable_model.specs.declared.error.DiskError.TheVariants.{Device, NoMemory}
use Rattle.durable_model.specs.Honest.{Elapses}
use Rattle.durable_pair.specs.Images.{Both, Images}

-- what a read gives after a call: where a write failed its range may hold any bytes
abbrev pub Sees : Call → List ℕ → List ℕ → List ℕ → Type 0
Sees (Wrote at n) bytes old new = new ≡ overwritten old at bytes
Sees (Tore at n) bytes old new = Torn at n old new
Sees Synced bytes old new = new ≡ old
Sees Left bytes old new = new ≡ old

-- The call on one disk, with the bytes that it wrote: what a read of that disk gives, and what a crash leaves of it; of the
-- other disk both are as they were; and time goes on for both together.
pub record Does {D : Type 0} (moment : D → ℕ) (both_since : D → ℕ → Images → Type 0) (both_may : D → Images → Type 0)
    (seen : D → List ℕ) (may : D → List ℕ → Type 0) (other_seen : D → List ℕ) (other_may : D → List ℕ → Type 0)
    (call : Call) (bytes : List ℕ) (old new : D) : Type 0 where
  pub sees : Sees call bytes (seen old) (seen new)
  pub left : (c : List ℕ) → may new c → MayLeaveAfter call bytes (may old) (seen old) c
  pub other_same : other_seen new ≡ other_seen old
  pub other_left : (c : List ℕ) → other_may new c ↔ other_may old c
  pub time : Elapses moment both_since both_may old new

-- ---- what calls on the old disk do
module _ {D : Type 0} (disk : disks.Ghosts D) (both_since : D → ℕ → Images → Type 0) (new_may old_may : D → List ℕ → Type 0)
    (old_seen : D → List ℕ) where
  -- the call on that disk
  abbrev pub DoesOld : Call → List ℕ → D → D → Type 0
  DoesOld = Does disk.moment both_since (Both new_may old_may) old_seen old_may disk.seen new_may

  -- ---- of a whole pair, by the call's result
  module _ (is_whole : D → Type 0) {T : Type 0} where
    -- a write that succeeded
    abbrev pub WritesOld : ℕ → List ℕ → Result T DiskError → D → D → Type 0
    WritesOld at bytes result old new = is_whole old → OnOk result (DoesOld (Wrote at (length bytes)) bytes old new)

    -- one at which the device failed
    abbrev pub TearsOld : ℕ → List ℕ → Result T DiskError → D → D → Type 0
    TearsOld at bytes result old new = is_whole old → IsErrOf result Device → DoesOld (Tore at (length bytes)) [] old new

    -- one that was out of memory
    abbrev pub SparesOld : Result T DiskError → D → D → Type 0
    SparesOld result old new = is_whole old → IsErrOf result NoMemory → DoesOld Left [] old new

    -- a sync that succeeded
    abbrev pub SyncsOld : Result T DiskError → D → D → Type 0
    SyncsOld result old new = is_whole old → OnOk result (DoesOld Synced [] old new)

    -- one that failed
    abbrev pub LeavesOld : Result T DiskError → D → D → Type 0
    LeavesOld result old new = is_whole old → OnErr result (DoesOld Left [] old new)
