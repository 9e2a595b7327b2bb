-- Nothing is put, and no disk opened.
use Rattle.std.specs.Prelude.{List, Option, None, Some}
use Rattle.std.proofs.Common.{refl}
use Rattle.cfarm_files.specs.Placing.{KeepsFolder, Placed}
use Rattle.cfarm_files.specs.Using.{DiskUse, UsesNone}
use Rattle.cfarm_files.proofs.Uses.{uses_none}

pub keeps_same : (o : Option (List Placed)) → KeepsFolder o o
keeps_same None = tt
keeps_same (Some placed) = refl

pub keeps_files : {D : Type 0} (placed : Option (List Placed)) (used : Option (List (DiskUse D))) → KeepsFolder placed placed × UsesNone used used
keeps_files placed used = (keeps_same placed, uses_none used)
