-- Which journal counts of a pair of disks.
use Rattle.durable_model.specs.declared.disk.Disk as disks
use Rattle.durable_pair.specs.declared.pair.Pair as pairs
use Rattle.farm_nodes_open_old.specs.OnPairs.{HasNone, HasNew, HasOld}

-- none, that on the new disk, or that on the old one
pub data WhichJournal : Type 0 where
  None : WhichJournal
  New : WhichJournal
  Old : WhichJournal

-- so it is of this pair
abbrev pub CountsOn : {P : Type 0} → disks.Ghosts P → pairs.Ghosts P → WhichJournal → P → Type 0
CountsOn disk pair None given = HasNone disk pair given
CountsOn disk pair New given = HasNew disk pair given
CountsOn disk pair Old given = HasOld disk pair given
