-- The seats of a node of a farm that opened over what a crash left, whatever was done with them since.
use Rattle.std.specs.Prelude.{◌≡◌, ℕ, List, length, Some, slice_get}
use Rattle.std.specs.Global.{Vec}
use Rattle.durable_model.specs.declared.disk.Disk as disks
use Rattle.paxos_core_world.specs.KeptPart.{KeptPart}
use Rattle.paxos_core_world.specs.Quorum.{Sizes}
use Rattle.acceptor_log.specs.Acknowledged.{acknowledged}
use Rattle.acceptor_log.specs.declared.log.Log.{Log}
use Rattle.rooms_hall.specs.declared.hall.Naming as naming
use Rattle.farm_nodes_turn_offer.specs.Told.{last_offer_in}
use Rattle.farm_nodes_turn_passes.specs.Fours.{fours_of, words_of}
use Rattle.farm_nodes_turn_passes.specs.NumberedSeat.{NumberedSeat}
use Rattle.farm_nodes_turn_passes.specs.Numbers.{room_at}
use Rattle.farm_nodes_turn_passes.specs.Offers.{IsConstants, IsExpressions, IsAllocation, IsOrder}
use Rattle.farm_nodes_turn_passes.specs.SeatValue.{SeatValue, offer_of}
use Rattle.farm_nodes_turn_passes.specs.declared.which.Which.{Which}
use Rattle.farm_nodes_turn_passes.specs.declared.which.Which.TheVariants.{Constants, Expressions, Allocation, Order}
use Rattle.farm_nodes_open_numbers.specs.Kept.{kept_of}
use Rattle.farm_nodes_crash.specs.Again.{IsLaterSeat}
use Rattle.farm_nodes_crash.specs.Meeting.{FunctionSeats}

-- what the seat has seen as node j's offer is the offer with this text
abbrev pub SeesText : {T : Type 0} → (List ℕ → T → Type 0) → SeatValue T → ℕ → List ℕ → Type 0
SeesText {T} IsText s j text = (x : T) → offer_of s j ≡ Some x → IsText text x

-- so it is of the seat in the room of a pass
abbrev pub SeesTextIn : Which → FunctionSeats → ℕ → List ℕ → Type 0
SeesTextIn Constants s = SeesText IsConstants s.constants
SeesTextIn Expressions s = SeesText IsExpressions s.expressions
SeesTextIn Allocation s = SeesText IsAllocation s.allocation
SeesTextIn Order s = SeesText IsOrder s.order

module _ {D : Type 0} (disk : disks.Ghosts D) (q : Sizes) (functions : ℕ) (again : List (Log D)) (kept : List (Vec KeptPart)) where
  -- In a room of which a node's journal told an offer as the farm opened, the seat sees that offer as the node's.
  abbrev pub SeesOffersOf : ℕ → Which → FunctionSeats → Type 0
  SeesOffersOf f pass s =
      (j : ℕ) (log : Log D) (text : List ℕ) → slice_get again j ≡ Some log
      → last_offer_in (acknowledged disk.seen log) (room_at f pass) ≡ Some text → SeesTextIn pass s j text

  -- It has seats in the rooms of so many functions, each in a room that opened from what the nodes had kept, and sees the offers of their journals.
  pub record AreLaterSeats {H : Type 0} {h : naming.Ghosts H} (later : List (NumberedSeat H h)) : Type 0 where
    pub count : length later ≡ functions
    pub rooms : (f : ℕ) (pass : Which) (s : FunctionSeats) → slice_get (fours_of later) f ≡ Some s
        → IsLaterSeat q (kept_of kept (room_at f pass)) (words_of s pass)
    pub offers : (f : ℕ) (pass : Which) (s : FunctionSeats) → slice_get (fours_of later) f ≡ Some s → SeesOffersOf f pass s
