-- What is due in a room once its record stands, and what the doing of it leaves.
use Rattle.std.specs.Prelude.{◌≡◌, ◌⊎◌, ℕ, List, [], ◌∷◌, IfSome, true}
use Rattle.acceptor_log_form.specs.declared.record.Record.{Record}
use Rattle.acceptor_log_form.specs.Text.{room_of}
use Rattle.rooms_crash.specs.SeatAct.{SeatAct}
use Rattle.rooms_crash.specs.SeatAct.TheVariants as act
use Rattle.rooms_crash.specs.Would.{would, Acted, IsAmong}
use Rattle.farm_nodes_turn_order.specs.Recorded.{record_of, records_of}
use Rattle.farm_nodes_turn_offer.specs.Offered.{PutsOffer}
use Rattle.farm_nodes_turn_offer.specs.SeatValue.{SeatValue, IsOneRoom}
use Rattle.farm_nodes_turn_room.specs.Fault.{Fault}
use Rattle.farm_nodes_turn_room.specs.Fault.TheVariants.{CellRefused, NoMemory}
use Rattle.farm_nodes_turn_room.specs.Leading.{may_start}
use Rattle.farm_nodes_turn_passes.specs.Offers.{IsConstants, IsExpressions, IsAllocation, IsOrder}
use Rattle.farm_nodes_sweep_step.specs.Staged.{MayStep, Steps}
use Rattle.farm_nodes_sweep_function.specs.declared.planned.Step.{Step}
use Rattle.farm_nodes_sweep_function.specs.declared.planned.Step.TheVariants.{Act}
use Rattle.farm_nodes_sweep_function.specs.RoomSeat.{RoomSeat, InConstants, InExpressions, InAllocation, InOrder}
use Rattle.farm_nodes_sweep_function.specs.RoomSeat.{for_constants, for_expressions, for_allocation, for_order}
use Rattle.farm_nodes_sweep_function.specs.RoomSeat.{Task, Acts, Lays, Foreign}
use Rattle.farm_nodes_sweep_function.specs.Staged.{PlansOffer}

module _ {T : Type 0} where
  -- The act is asked of a node of the room, and the record is of it. A ballot is started where the node may start one.
  pub record DueAct (s : SeatValue T) (r : Record) (a : SeatAct) : Type 0 where
    pub among : IsAmong s.words.node.quorums.nodes a
    pub entry : records_of (room_of r) (would s.words a) ≡ r ∷ []
    pub starts : a ≡ act.Start → may_start s.words.node ≡ true
    pub may : MayStep (room_of r) s.words r

  -- it may be done, and the record is of it
  abbrev pub IsDue : (List ℕ → T → Type 0) → SeatValue T → Record → Task T → Type 0
  IsDue IsText s r (Acts a) = DueAct s r a
  IsDue IsText s r (Lays x) = PlansOffer IsText (room_of r) s r x
  IsDue IsText s r Foreign = ⊥

  -- the act was done: it leaves what its record in any room leaves, and no cell was read or filled
  pub record DoesAct (s t : SeatValue T) (a : SeatAct) : Type 0 where
    pub acted : Acted a s.words t.words
    pub steps : (room : ℕ) → IfSome (would s.words a) (λ x. Steps room s.words t.words (record_of room x))
    pub sights : t.sights ≡ s.sights
    pub room : IsOneRoom s t

  -- it was done
  abbrev pub Does : SeatValue T → SeatValue T → Task T → Type 0
  Does s t (Acts a) = DoesAct s t a
  Does s t (Lays x) = PutsOffer x s t × IsOneRoom s t
  Does s t Foreign = ⊥

  -- it may be asked for
  abbrev pub MayDo : SeatValue T → Task T → Type 0
  MayDo s (Acts a) = IsAmong s.words.node.quorums.nodes a
  MayDo s (Lays x) = Unit {0}
  MayDo s Foreign = ⊥

abbrev pub IsDueIn : RoomSeat → Record → Step → Type 0
IsDueIn (InConstants s) r x = IsDue IsConstants s r (for_constants x)
IsDueIn (InExpressions s) r x = IsDue IsExpressions s r (for_expressions x)
IsDueIn (InAllocation s) r x = IsDue IsAllocation s r (for_allocation x)
IsDueIn (InOrder s) r x = IsDue IsOrder s r (for_order x)

abbrev pub DoesIn : Step → RoomSeat → RoomSeat → Type 0
DoesIn x (InConstants s) (InConstants t) = Does s t (for_constants x)
DoesIn x (InExpressions s) (InExpressions t) = Does s t (for_expressions x)
DoesIn x (InAllocation s) (InAllocation t) = Does s t (for_allocation x)
DoesIn x (InOrder s) (InOrder t) = Does s t (for_order x)
DoesIn x other another = ⊥

abbrev pub MayDoIn : RoomSeat → Step → Type 0
MayDoIn (InConstants s) x = MayDo s (for_constants x)
MayDoIn (InExpressions s) x = MayDo s (for_expressions x)
MayDoIn (InAllocation s) x = MayDo s (for_allocation x)
MayDoIn (InOrder s) x = MayDo s (for_order x)

-- an offer alone is refused, by its cell or for want of memory
abbrev pub IsRefused : Step → Fault → Type 0
IsRefused (Act a) fault = ⊥
IsRefused other fault = (fault ≡ CellRefused) ⊎ (fault ≡ NoMemory)
