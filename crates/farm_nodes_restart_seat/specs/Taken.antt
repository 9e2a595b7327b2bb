-- What a halted node had pending with one seat is done, or can't be done; and that the seat forgot.
use Rattle.std.specs.Prelude.{◌≡◌, ℕ, List}
use Rattle.acceptor_log_form.specs.declared.record.Record.{Record}
use Rattle.acceptor_log_form.specs.declared.record.Record.TheVariants.{Offered}
use Rattle.rooms_seat_state.specs.Did.{Forgotten}
use Rattle.rooms_seat_state.specs.Would.{Acted}
use Rattle.farm_nodes_turn_offer.specs.SeatValue.{SeatValue}
use Rattle.farm_nodes_turn_offer.specs.FarmNodesTurnStepPending.{Pending}
use Rattle.farm_nodes_turn_offer.specs.FarmNodesTurnStepPending.TheVariants.{Act, Offer}
use Rattle.farm_nodes_turn_offer.specs.Offered.{PutsOffer}
use Rattle.farm_nodes_restart_seat.specs.declared.fault.RestartFault.{RestartFault}
use Rattle.farm_nodes_restart_seat.specs.declared.fault.RestartFault.TheVariants.{NoMemory, Journal, OtherRecords, CellRefused}

module _ {T : Type 0} (IsText : List ℕ → T → Type 0) (room : ℕ) where
  -- the offer that the record is of stands in its cell
  abbrev pub TookOffer : Record → SeatValue T → SeatValue T → Type 0
  TookOffer r old new = (x : T) × (bytes : List ℕ) × (r ≡ Offered room bytes) × IsText bytes x × PutsOffer x old new

  -- it is done: the step is taken, or the offer is made
  abbrev pub Took : Pending → SeatValue T → SeatValue T → Type 0
  Took (Act a) old new = Acted a old.words new.words × (new.sights ≡ old.sights)
  Took (Offer r) old new = TookOffer r old new

-- why an offer can't be made again: memory was refused, or the cell refused it
abbrev pub IsOfferFault : RestartFault → Type 0
IsOfferFault NoMemory = Unit {0}
IsOfferFault CellRefused = Unit {0}
IsOfferFault (Journal e) = ⊥
IsOfferFault OtherRecords = ⊥

-- why what is pending can't be done: a step always can
abbrev pub IsTakeFault : Pending → RestartFault → Type 0
IsTakeFault (Act a) fault = ⊥
IsTakeFault (Offer r) fault = IsOfferFault fault

-- the seat forgot all but what its node keeps, and the offers that it has seen
pub record HasForgotten {T : Type 0} (old new : SeatValue T) : Type 0 where
  pub words : Forgotten old.words new.words
  pub sights : new.sights ≡ old.sights
