-- A node's seats come back over its records.
use Rattle.std.specs.Prelude.{◌≡◌, ◌⊎◌, ℕ, List, length, Option, Some, None, slice_get}
use Rattle.acceptor_log_form.specs.declared.errors.LogError.TheVariants as log
use Rattle.acceptor_log_form.specs.declared.header.Header.{Header}
use Rattle.acceptor_log_form.specs.declared.record.Record.{Record}
use Rattle.acceptor_log_form.specs.Fault.{HasFault}
use Rattle.acceptor_log_form.specs.Order.{AreInOrder}
use Rattle.acceptor_log_form.specs.Text.{StandsFor}
use Rattle.farm_nodes_turn_step.specs.declared.stop.Pending.{Pending}
use Rattle.farm_nodes_turn_step.specs.declared.stop.Pending.TheVariants.{Act, Offer}
use Rattle.rooms_seat_state.specs.SeatState.{SeatState}
use Rattle.farm_nodes_turn_step.specs.OfRun.{GoesOn}
use Rattle.farm_nodes_turn_order.specs.Ordered.{IsOfOneNode}
use Rattle.farm_nodes_restart_records.specs.Fours.{Four, words_of}
use Rattle.farm_nodes_restart_records.specs.Leaves.{Leave}
use Rattle.farm_nodes_restart_records.specs.Texts.{Texts, texts_by}
use Rattle.farm_nodes_restart_records.specs.Numbers.{function_of, pass_of}
use Rattle.farm_nodes_restart_records.specs.Which.{Which}
use Rattle.farm_nodes_restart_records.specs.Which.TheVariants.{Constants, Expressions, Allocation, Order}
use Rattle.farm_nodes_restart_seat.specs.declared.fault.RestartFault.{RestartFault}
use Rattle.farm_nodes_restart_seat.specs.declared.fault.RestartFault.TheVariants.{NoMemory, Journal, OtherRecords, CellRefused}
use Rattle.farm_nodes_restart_seat.specs.Taken.{HasForgotten, IsTakeFault, Took}
use Rattle.farm_nodes_restart_records.specs.Found.{AreOther, LeaveWith}
use Rattle.farm_nodes_restart_seat.specs.Places.{AllChanged, ChangedAt}

-- each of a function's seats has forgotten all but what its node keeps, and is of the room that it was of
pub record HaveForgotten {X1 X2 X3 X4 : Type 0} (old new : Four X1 X2 X3 X4) : Type 0 where
  pub constants : HasForgotten old.constants new.constants
  pub expressions : HasForgotten old.expressions new.expressions
  pub allocation : HasForgotten old.allocation new.allocation
  pub order : HasForgotten old.order new.order
  pub number : new.number ≡ old.number

-- the seat is its node's as it was, has no ballot under way, and goes on in its run
pub record IsAtRest (old new : SeatState) : Type 0 where
  pub node : IsOfOneNode old new
  pub ballot : new.node.ballot ≡ None
  pub run : GoesOn old new

-- so are all
pub record AreAtRest {X1 X2 X3 X4 : Type 0} (old new : List (Four X1 X2 X3 X4)) : Type 0 where
  pub count : length new ≡ length old
  pub each : (m : ℕ) (s t : Four X1 X2 X3 X4) → slice_get old (function_of m) ≡ Some s → slice_get new (function_of m) ≡ Some t
      → IsAtRest (words_of s (pass_of m)) (words_of t (pass_of m))

-- Each pass has its own offers, and texts of them.
module _ {X1 X2 X3 X4 : Type 0} (IsText1 : List ℕ → X1 → Type 0) (IsText2 : List ℕ → X2 → Type 0)
    (IsText3 : List ℕ → X3 → Type 0) (IsText4 : List ℕ → X4 → Type 0) (room : ℕ) where
  -- it is done there, and the other seats are as they were
  abbrev pub TookIn : Which → Pending → Four X1 X2 X3 X4 → Four X1 X2 X3 X4 → Type 0
  TookIn Constants p old new = Took IsText1 room p old.constants new.constants × (new ≡ record old { constants = new.constants })
  TookIn Expressions p old new = Took IsText2 room p old.expressions new.expressions × (new ≡ record old { expressions = new.expressions })
  TookIn Allocation p old new = Took IsText3 room p old.allocation new.allocation × (new ≡ record old { allocation = new.allocation })
  TookIn Order p old new = Took IsText4 room p old.order new.order × (new ≡ record old { order = new.order })

  -- it is done with the seat of the room
  abbrev pub TookAt : Pending → List (Four X1 X2 X3 X4) → List (Four X1 X2 X3 X4) → Type 0
  TookAt p old new = ChangedAt (TookIn (pass_of room) p) (function_of room) old new

  abbrev pub IsTaken : Option Pending → List (Four X1 X2 X3 X4) → List (Four X1 X2 X3 X4) → Type 0
  IsTaken None old new = ⊥
  IsTaken (Some p) old new = TookAt p old new

  -- What is pending is done where its record stands last, behind those that leave what the seats keep and tell their offers. Else
  -- all of the records do, and the seats are as they were.
  abbrev pub HasStepped : Option Pending → List Record → List (Four X1 X2 X3 X4) → List (Four X1 X2 X3 X4) → Type 0
  HasStepped p rs old new =
      (LeaveWith (texts_by IsText1 IsText2 IsText3 IsText4) old room p rs × IsTaken p old new)
      ⊎ ((LeaveWith (texts_by IsText1 IsText2 IsText3 IsText4) old room p rs → ⊥)
      × Leave (texts_by IsText1 IsText2 IsText3 IsText4) old rs × (new ≡ old))

  -- then all seats have forgotten; the records leave what they keep, and tell their offers
  pub record HaveReturned (p : Option Pending) (rs : List Record) (old new : List (Four X1 X2 X3 X4)) : Type 0 where
    pub between : List (Four X1 X2 X3 X4)
    pub stepped : HasStepped p rs old between
    pub forgot : AllChanged HaveForgotten between new
    pub leave : Leave (texts_by IsText1 IsText2 IsText3 IsText4) new rs

-- why what is pending can't be done
abbrev pub IsPendingFault : Option Pending → RestartFault → Type 0
IsPendingFault None fault = ⊥
IsPendingFault (Some p) fault = IsTakeFault p fault

-- what is pending is an offer
abbrev pub IsOfferPending : Option Pending → Type 0
IsOfferPending None = ⊥
IsOfferPending (Some (Act a)) = ⊥
IsOfferPending (Some (Offer r)) = Unit {0}

-- records that the bytes stand for, of which it is so
abbrev pub OfRecords : Header → List ℕ → (List Record → Type 0) → Type 0
OfRecords h bytes P = (rs : List Record) × StandsFor h rs bytes × P rs

module _ {X1 X2 X3 X4 : Type 0} where
  -- Why the seats don't come back over these records: memory was refused; they are out of order; or they are in order,
  -- and are records of other kept parts or offers, or the cell refused the offer whose record stands last.
  abbrev pub HoldsBack : Texts X1 X2 X3 X4 → Header → ℕ → List (Four X1 X2 X3 X4) → ℕ → Option Pending → List Record → RestartFault → Type 0
  HoldsBack texts h rooms seats room p rs NoMemory = Unit {0}
  HoldsBack texts h rooms seats room p rs (Journal e) = (e ≡ log.BadRecord) × (AreInOrder h.nodes h.node rooms rs → ⊥)
  HoldsBack texts h rooms seats room p rs OtherRecords = AreInOrder h.nodes h.node rooms rs × AreOther texts seats room p rs
  HoldsBack texts h rooms seats room p rs CellRefused = AreInOrder h.nodes h.node rooms rs × LeaveWith texts seats room p rs × IsOfferPending p

  -- Why a node doesn't come back over bytes: memory was refused; the device failed, or the bytes are no journal of its header, or
  -- their records are out of order; they are in order, and are others; or the cell refused the offer whose record stands last. A
  -- device's failure has a clause of its own.
  abbrev pub HasReason : Texts X1 X2 X3 X4 → Header → ℕ → List (Four X1 X2 X3 X4) → ℕ → Option Pending → List ℕ → RestartFault → Type 0
  HasReason texts h rooms seats room p bytes NoMemory = Unit {0}
  HasReason texts h rooms seats room p bytes (Journal e) =
      (e ≡ log.Device) ⊎ HasFault h bytes e ⊎ OfRecords h bytes (λ rs. HoldsBack texts h rooms seats room p rs (Journal e))
  HasReason texts h rooms seats room p bytes OtherRecords = OfRecords h bytes (λ rs. HoldsBack texts h rooms seats room p rs OtherRecords)
  HasReason texts h rooms seats room p bytes CellRefused = OfRecords h bytes (λ rs. HoldsBack texts h rooms seats room p rs CellRefused)
