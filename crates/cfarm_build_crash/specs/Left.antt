-- The disks that a build gave back, after a crash of all of them.
use Rattle.std.specs.Prelude.{◌≡◌, ℕ, List, length, Some, slice_get}
use Rattle.durable_model.specs.declared.disk.Disk as disks
use Rattle.durable_pair.specs.declared.pair.Pair as pairs
use Rattle.farm_nodes_restart_disks.specs.Left.{ShowsLeft}

module _ {D : Type 0} (disk : disks.Ghosts D) (pair : pairs.Ghosts D) where
  -- both disks of the pair are honest, and show what a crash now may leave of this one
  pub record IsLeftOfDisk (back p : D) : Type 0 where
    pub whole : pair.is_whole p
    pub shows : ShowsLeft disk pair back p

  -- a crash of all that were given back leaves these pairs, in their order
  pub record AreLeftBehind (back left : List D) : Type 0 where
    pub count : length left ≡ length back
    pub each : (i : ℕ) (b p : D) → slice_get back i ≡ Some b → slice_get left i ≡ Some p → IsLeftOfDisk b p
