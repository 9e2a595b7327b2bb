-- Why a node that took turns is stopped.
use Rattle.std.specs.Prelude.{◌≡◌, ℕ, List, Option, Some, None, slice_get}
use Rattle.lang_base.specs.declared.program.Named.{Named}
use Rattle.rtl_language.specs.Function.{FunctionData}
use Rattle.durable_model.specs.declared.disk.Disk as disks
use Rattle.acceptor_log.specs.declared.log.Log.{Log}
use Rattle.farm_nodes_turn_offer.specs.Halted.{HasHaltCause}
use Rattle.farm_nodes_turn_node.specs.Fours.{Four}
use Rattle.farm_nodes_turn_node.specs.Held.{pending_in}
use Rattle.farm_nodes_turn_node.specs.Numbers.{function_of, pass_of}
use Rattle.farm_nodes_turn_node.specs.Offers.{ConstantsOffer, ExpressionsOffer, AllocationOffer, OrderOffer}
use Rattle.farm_nodes_turn_node.specs.Turned.{IsTooLargeFor}
use Rattle.farm_nodes_turn_node.specs.declared.halted.Halted.{Halted}

-- in some room of these functions the input is too large, as the node knows it: its pass has no baseline
pub record IsTooLarge (functions : List (Named FunctionData)) (seats : List (Four ConstantsOffer ExpressionsOffer AllocationOffer OrderOffer)) : Type 0 where
  pub room : ℕ
  pub function : Named FunctionData
  pub seat : Four ConstantsOffer ExpressionsOffer AllocationOffer OrderOffer
  pub named : slice_get functions (function_of room) ≡ Some function
  pub seated : slice_get seats (function_of room) ≡ Some seat
  pub too_large : IsTooLargeFor function.function (pass_of room) seat

-- Where it is stopped there is a cause, between these journals: memory was refused, its journal's device failed or its file is full, an input
-- is too large, or its cell refused its offer. Other records are no cause.
abbrev pub IsStoppedFor : {D : Type 0} → disks.Ghosts D → List (Named FunctionData) → Log D → Log D
    → List (Four ConstantsOffer ExpressionsOffer AllocationOffer OrderOffer) → Option Halted → Type 0
IsStoppedFor disk functions old new seats None = Unit {0}
IsStoppedFor disk functions old new seats (Some h) =
    HasHaltCause disk (IsTooLarge functions seats) old new (pending_in seats (Some h)) h.halt.fault
