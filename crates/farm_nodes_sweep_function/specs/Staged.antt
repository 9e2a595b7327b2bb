-- What a node is about to do in the room of a pass of a function.
use Rattle.std.specs.Prelude.{◌≡◌, ℕ, Bool, ◌&&◌, true, false, List}
use Rattle.std.specs.Arc.{arc_value}
use Rattle.rtl_language.specs.Function.{FunctionData}
use Rattle.acceptor_log_form.specs.declared.record.Record.{Record}
use Rattle.acceptor_log_form.specs.declared.record.Record.TheVariants.{Offered}
use Rattle.farm_nodes_turn_offer.specs.SeatValue.{SeatValue, IsOneRoom}
use Rattle.farm_nodes_turn_room.specs.Leading.{may_start}
use Rattle.farm_nodes_turn_room.specs.Played.{IsLearnedOutput, SeesOn}
use Rattle.farm_nodes_turn_passes.specs.Fours.{words_of}
use Rattle.farm_nodes_turn_passes.specs.Offers.{IsConstants, IsExpressions, IsAllocation, IsOrder}
use Rattle.farm_nodes_turn_passes.specs.declared.which.Which.{Which}
use Rattle.farm_nodes_turn_function.specs.Turned.{HasInput}
use Rattle.farm_nodes_sweep_step.specs.Next.{HasNoNext}
use Rattle.farm_nodes_sweep_step.specs.Staged.{HasLooked, IsStaged, MayStep}
use Rattle.farm_nodes_sweep_function.specs.declared.planned.Step.{Step}
use Rattle.farm_nodes_sweep_function.specs.declared.planned.Step.TheVariants.{Act, First, Second, Third, Fourth}
use Rattle.farm_nodes_sweep_function.specs.RoomSeat.{Fours, RoomSeat, InConstants, InExpressions, InAllocation, InOrder}
use Rattle.farm_nodes_sweep_function.specs.RoomSeat.{for_constants, for_expressions, for_allocation, for_order}
use Rattle.farm_nodes_sweep_function.specs.RoomSeat.{Task, Acts, Lays, Foreign}

-- its node has looked at the words of the room and at the offer that was learned there
pub record Looks {T : Type 0} (old new : SeatValue T) : Type 0 where
  pub words : HasLooked old.words new.words
  pub room : IsOneRoom old new
  pub seen : SeesOn old new

abbrev pub LooksIn : RoomSeat → RoomSeat → Type 0
LooksIn (InConstants s) (InConstants t) = Looks s t
LooksIn (InExpressions s) (InExpressions t) = Looks s t
LooksIn (InAllocation s) (InAllocation t) = Looks s t
LooksIn (InOrder s) (InOrder t) = Looks s t
LooksIn other another = ⊥

module _ {T : Type 0} (IsText : List ℕ → T → Type 0) (room : ℕ) where
  -- The node has made no offer in the room; the record has the text of x, and may be put down.
  pub record PlansOffer (s : SeatValue T) (r : Record) (x : T) : Type 0 where
    pub first : s.words.node.kept.offered ≡ false
    pub text : List ℕ
    pub told : IsText text x
    pub entry : r ≡ Offered room text
    pub may : MayStep room s.words r

  -- it is what the node does next in the room, and the record is of that
  abbrev pub Plans : Bool → SeatValue T → Record → Task T → Type 0
  Plans starts s r (Acts a) = IsStaged room (starts && may_start s.words.node) s.words (record { act = a; entry = r })
  Plans starts s r (Lays x) = PlansOffer s r x
  Plans starts s r Foreign = ⊥

abbrev pub PlansIn : ℕ → Bool → RoomSeat → Record → Step → Type 0
PlansIn room starts (InConstants s) r x = Plans IsConstants room starts s r (for_constants x)
PlansIn room starts (InExpressions s) r x = Plans IsExpressions room starts s r (for_expressions x)
PlansIn room starts (InAllocation s) r x = Plans IsAllocation room starts s r (for_allocation x)
PlansIn room starts (InOrder s) r x = Plans IsOrder room starts s r (for_order x)

-- an offer has the input of its pass: the function, or the output that the node has learned in the room before
abbrev pub HasInputOf : FunctionData → Fours → Step → Type 0
HasInputOf function s (Act a) = Unit {0}
HasInputOf function s (First offer) = (arc_value offer).input ≡ function
HasInputOf function s (Second offer) = IsLearnedOutput s.constants (arc_value offer).input
HasInputOf function s (Third offer) = IsLearnedOutput s.expressions (arc_value offer).input
HasInputOf function s (Fourth offer) = IsLearnedOutput s.allocation (arc_value offer).input

-- there is nothing to do in the room: the node has offered if it knows the input, and has no step to take
pub record IsSettled (starts : Bool) (pass : Which) (s : Fours) : Type 0 where
  pub offered : HasInput pass s → (words_of s pass).node.kept.offered ≡ true
  pub next : HasNoNext (starts && may_start (words_of s pass).node) (words_of s pass)
