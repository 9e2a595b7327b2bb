-- Nothing is put.
use Rattle.std.specs.Prelude.{List, Option, None, Some}
use Rattle.std.proofs.Common.{refl}
use Rattle.cfarm_files.specs.Placing.{KeepsFolder, Placed}

pub keeps_same : (o : Option (List Placed)) → KeepsFolder o o
keeps_same None = tt
keeps_same (Some placed) = refl
