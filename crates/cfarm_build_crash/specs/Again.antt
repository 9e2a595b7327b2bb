-- What a crash leaves of the disks that a build gave back: it opens again, and what is linked over it is the same program.
use Rattle.std.specs.Prelude.{◌≡◌, ℕ, List, length}
use Rattle.std.specs.Arc.{arc_value}
use Rattle.std.specs.Global.{Vec}
use Rattle.std.specs.List.{AllByRecursion}
use Rattle.durable_model.specs.declared.disk.Disk as disks
use Rattle.durable_pair.specs.declared.pair.Pair as pairs
use Rattle.paxos_core_world.specs.KeptPart.{KeptPart}
use Rattle.paxos_core_world.specs.Quorum.{Sizes}
use Rattle.acceptor_log.specs.declared.log.Log.{Log}
use Rattle.rooms_hall.specs.declared.hall.Naming as naming
use Rattle.lang.specs.Form.{program_text}
use Rattle.linear_language.specs.Spelling.{spelling}
use Rattle.c_checker_rules.specs.Checked.{program_tree}
use Rattle.cminor_lowering.specs.Programs.{low}
use Rattle.rtlgen_definition.specs.Gen.{gen}
use Rattle.farm_nodes_source.specs.declared.source.Source.{Source}
use Rattle.farm_nodes_turn_passes.specs.NumberedSeat.{NumberedSeat}
use Rattle.farm_nodes_link.specs.Learned.{IsUndecided, learned_by}
use Rattle.farm_nodes_link.specs.Offered.{linked_offers}
use Rattle.farm_nodes_crash.specs.Again.{AreOpenedOn}
use Rattle.farm_nodes_crash.specs.Machine.{OpensButForMachine}
use Rattle.farm_nodes_crash.specs.Stand.{JournalsStand, OffersStand, RecordsStand, RoomsStand}
use Rattle.cfarm_build.specs.Built.{Built, IsBuiltBack}
use Rattle.cfarm_build_crash.specs.Later.{AreLaterSeats}
use Rattle.cfarm_build_crash.specs.Left.{AreLeftBehind}

-- how many functions a text has that was made ready
abbrev pub functions_in : Source → ℕ
functions_in source = length (arc_value source.translated).functions

-- the bytes of the program that is linked of these seats
abbrev pub program_of_seats : Source → {H : Type 0} {h : naming.Ghosts H} → List (NumberedSeat H h) → List ℕ
program_of_seats source seats = program_text 4 spelling (linked_offers (gen (low (program_tree source.program))) (learned_by seats))

module _ {D : Type 0} (disk : disks.Ghosts D) (pair : pairs.Ghosts D) {H : Type 0} (h : naming.Ghosts H) (q : Sizes) (source : Source) (given back : List D)
    (built : Built) (left : List D) where
  -- Nodes built this, one for each pair of disks that are honest; it is their disks that came back, and a crash of all of those left these pairs.
  pub record IsLeftOfBuild : Type 0 where
    pub seed : ℕ
    pub turns : ℕ
    pub size : length given ≡ q.nodes
    pub is_built : IsBuiltBack disk pair h q seed turns source given back built
    pub whole : AllByRecursion (λ p. pair.is_whole p) given
    pub crash : AreLeftBehind disk pair back left

  -- No journal on them is refused, but for want of memory or where a device fails; no records are out of order, no offer is refused by its pass,
  -- and no room is unsettled. So nothing but the machine keeps a farm from opening over them.
  pub record OpenAgain : Type 0 where
    pub journals : JournalsStand disk pair q source.digest (functions_in source) left
    pub records : RecordsStand disk pair q source.digest (functions_in source) left
    pub offers : OffersStand disk pair q source.digest (functions_in source) left
    pub rooms : RoomsStand disk pair q source.digest (functions_in source) left
    pub opens : OpensButForMachine disk pair q source.digest (arc_value source.translated) left

  -- ---- the promises

  -- it opens again
  abbrev pub OpensAgain : Type 0
  OpensAgain = IsLeftOfBuild → OpenAgain

  -- whatever node of a farm that opened over it links all functions, it links this very program
  abbrev pub LinksAgain : {L : Type 0} {l : naming.Ghosts L} → List (NumberedSeat L l) → Type 0
  LinksAgain later =
      IsLeftOfBuild → (again : List (Log D)) (kept : List (Vec KeptPart)) → AreOpenedOn disk pair q source.digest (functions_in source) left again kept
      → AreLaterSeats disk q (functions_in source) again kept later → (IsUndecided (learned_by later) → ⊥)
      → program_of_seats source later ≡ built.program.items
