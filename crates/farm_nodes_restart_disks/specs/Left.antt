-- What a pair of disks shows of another one that a crash left.
use Rattle.std.specs.Prelude.{ℕ, List}
use Rattle.durable_model.specs.declared.disk.Disk as disks
use Rattle.durable_pair.specs.declared.pair.Pair as pairs
use Rattle.durable_pair.specs.Images.{Both, IsSpent}

-- It shows what a crash now may leave of both disks of the other pair at one moment: the new one as it was left, and of the old one at
-- least, where that counted no more, that it does not count. More need not be read of it.
pub record ShowsLeft {P : Type 0} (disk : disks.Ghosts P) (pair : pairs.Ghosts P) (from given : P) : Type 0 where
  pub old : List ℕ
  pub left : Both pair.new_may pair.old_may from (disk.seen given, old)
  pub spent : IsSpent old → IsSpent (pair.old_seen given)
