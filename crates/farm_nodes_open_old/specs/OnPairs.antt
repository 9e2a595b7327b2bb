-- What stands on a pair of disks, and what a crash may leave of it.
use Rattle.std.specs.Prelude.{◌≡◌, ◌≢◌, ◌⊎◌, ℕ, List, [], get_or}
use Rattle.durable_model.specs.declared.disk.Disk as disks
use Rattle.durable_model.specs.Moments.{LeavesOnly}
use Rattle.durable_pair.specs.declared.pair.Pair as pairs
use Rattle.durable_pair.specs.Does.{Does}
use Rattle.durable_pair.specs.Images.{Images, IsSpent, Shows, Both}
use Rattle.durable_model_writes.specs.declared.call.Call.TheVariants.{Left}
use Rattle.farm_nodes_open_old.specs.declared.old.OldDisk.{OldDisk}
use Rattle.farm_nodes_open_old.specs.declared.old.OldDisk.TheVariants.{Counts, Empty, Spent}

-- what the bytes of an old disk are
abbrev pub IsOldDisk : List ℕ → OldDisk → Type 0
IsOldDisk bytes Counts = get_or bytes 0 0 ≡ 67
IsOldDisk bytes Empty = bytes ≡ []
IsOldDisk bytes Spent = IsSpent bytes × (bytes ≢ [])

module _ {P : Type 0} (disk : disks.Ghosts P) (pair : pairs.Ghosts P) where
  -- its old journal counts
  abbrev pub HasOld : P → Type 0
  HasOld p = IsSpent (pair.old_seen p) → ⊥

  -- it has no journal: both disks are empty
  abbrev pub HasNone : P → Type 0
  HasNone p = (disk.seen p ≡ []) × (pair.old_seen p ≡ [])

  -- its new journal counts
  abbrev pub HasNew : P → Type 0
  HasNew p = IsSpent (pair.old_seen p) × (HasNone p → ⊥)

  -- what the images show that a crash now may leave of both
  abbrev pub MayShow : P → List ℕ → Type 0
  MayShow p c = (im : Images) × Both pair.new_may pair.old_may p im × Shows im c

  -- a crash at any moment of a call leaves of both disks what it might have left before
  abbrev pub LeavesBoth : P → P → Type 0
  LeavesBoth given now = LeavesOnly disk.moment pair.both_since given now (Both pair.new_may pair.old_may given)

  -- a call of the old disk writes nothing
  abbrev pub LeavesOld : P → P → Type 0
  LeavesOld given now =
      Does disk.moment pair.both_since (Both pair.new_may pair.old_may) pair.old_seen pair.old_may disk.seen pair.new_may Left [] given now

  -- both disks are as they were, and a crash leaves nothing more of them
  pub record IsSame (given now : P) : Type 0 where
    pub new_same : disk.seen now ≡ disk.seen given
    pub old_same : pair.old_seen now ≡ pair.old_seen given
    pub new_left : (c : List ℕ) → pair.new_may now c → pair.new_may given c
    pub old_left : (d : List ℕ) → pair.old_may now d → pair.old_may given d

  -- nothing was written: the journal that counts is as it was
  pub record IsUntouched (given now : P) : Type 0 where
    pub new_same : disk.seen now ≡ disk.seen given
    pub old_same : HasOld given → pair.old_seen now ≡ pair.old_seen given
    pub spent : IsSpent (pair.old_seen given) → IsSpent (pair.old_seen now)

  -- A read of the new disk gives what it gave, and as a disk the pair leaves nothing that the new one might not have left.
  pub record IsShown (given now : P) : Type 0 where
    pub same : disk.seen now ≡ disk.seen given
    pub nothing_new : (c : List ℕ) → disk.may_leave now c → pair.new_may given c
