-- What was chosen in the room of a pass, as what a node is about to do there.
use Rattle.std.specs.Prelude.{Option, Some, None, Result, Ok, Err}
use Rattle.farm_nodes_turn_room.specs.Fault.{Fault}
use Rattle.farm_nodes_sweep_room.specs.declared.choice.Choice.{Choice}
use Rattle.farm_nodes_sweep_room.specs.declared.choice.Choice.TheVariants as choice
use Rattle.farm_nodes_sweep_function.specs.declared.planned.Planned.{Planned}
use Rattle.farm_nodes_sweep_function.specs.declared.planned.Step.{Step}
use Rattle.farm_nodes_sweep_function.specs.declared.planned.Step.TheVariants as step

module _ {B : Type 0} (by : B → Step) where
  abbrev pub planned_by : Choice B → Option Planned
  planned_by (choice.Offer entry offer) = Some (record { entry = entry; step = by offer })
  planned_by (choice.Act staged) = Some (record { entry = staged.entry; step = step.Act staged.act })
  planned_by choice.Nothing = None

  abbrev pub told_by : Result (Choice B) Fault → Result (Option Planned) Fault
  told_by (Ok chosen) = Ok (planned_by chosen)
  told_by (Err fault) = Err fault
