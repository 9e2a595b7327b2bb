-- Each status of a build is at most 7.
use Rattle.std.specs.Prelude.{ℕ, zero, suc, ◌≤◌}
use Rattle.std.proofs.Common.{arith}
use Rattle.cfarm_fsck_files.specs.Statuses.{unless_memory}
use Rattle.cfarm_fsck_files.specs.BuildError.TheVariants as B
use Rattle.cfarm_build.specs.Answers as building
use Rattle.cfarm_build.specs.BuildingError.{BuildingError}
use Rattle.cfarm_build.specs.BuildingError.TheVariants as G
use Rattle.cfarm_fsck_files.specs.Numbers.{disks_number_of}
use Rattle.farm_nodes_turn_offer.specs.Halted as halts
use Rattle.cfarm_fsck_files.specs.Told as texts

unless : (n status : ℕ) → status ≤ 7 → unless_memory n status ≤ 7
unless zero status small = small
unless (suc zero) status small = omega arith
unless (suc (suc n)) status small = small

pub building_in_table : (e : BuildingError) → building.status_of e ≤ 7
building_in_table (G.Build B.NoMemory) = omega arith
building_in_table (G.Build B.NoThread) = omega arith
building_in_table (G.Build (B.Source fault)) = unless (texts.number_of fault) 1 (omega arith)
building_in_table (G.Build (B.Disks fault)) = unless (disks_number_of fault) 4 (omega arith)
building_in_table (G.Build (B.Failed node fault)) = unless (halts.number_of fault) 4 (omega arith)
building_in_table (G.Build B.Undecided) = omega arith
building_in_table (G.Build (B.Unlinked fault name)) = omega arith
building_in_table (G.Build B.Names) = omega arith
building_in_table (G.File path reason) = omega arith
building_in_table G.Write = omega arith
