-- What a turn of a node in a room leaves of the journal of a disk, what it may leave to be done, and why it halts.
use Rattle.std.specs.Prelude.{◌≡◌, ℕ, Bool, true, Option, Result, IfErr}
use Rattle.durable_model.specs.declared.disk.Disk as disks
use Rattle.lang_base.specs.declared.language.Language as language
use Rattle.lang_base.specs.declared.pass.Pass as pass
use Rattle.acceptor_log.specs.declared.log.Log.{Log}
use Rattle.offers.specs.declared.parts.Parts.{Parts}
use Rattle.rooms_seat_state.specs.SeatState.{SeatState}
use Rattle.farm_nodes_turn_offer.specs.SeatValue.{SeatValue}
use Rattle.farm_nodes_turn_offer.specs.declared.halt.Halt.{Halt}
use Rattle.farm_nodes_turn_offer.specs.Halted.{left_over, Recorded, HasHaltCause}
use Rattle.farm_nodes_turn_offer.specs.Pending.{IsOfferText, MayPendOn}
use Rattle.farm_nodes_turn_offer.specs.Told.{IsOwnText}
use Rattle.farm_nodes_turn_room.specs.declared.progress.Progress.{Progress}
use Rattle.farm_nodes_turn_room.specs.Played.{IsTooLarge, Played}

module _ {D : Type 0} (disk : disks.Ghosts D) where
  -- where the journal went on, a node that halts has a cause for it, which may be that the input is too large
  abbrev pub MayHaltFor : {A : Type 0} → Type 0 → Log D → Log D → ℕ → SeatState → Result A Halt → Type 0
  MayHaltFor TooLarge old new room t result =
      old.going ≡ true
      → IfErr result (λ halt. HasHaltCause disk TooLarge old new (left_over room t halt.pending) halt.fault)

  -- the same over this input, if there is one, by the test of what is too large
  abbrev pub HaltsOver : {A I : Type 0} → (I → Type 0) → Option I → Log D → Log D → ℕ → SeatState → Result A Halt → Type 0
  HaltsOver too_large input old new room t result = MayHaltFor (IsTooLarge too_large input) old new room t result

module _ {P A B C I O : Type 0} where
  -- where it halts, it may have an act pending, or its offer by this pass, which is not made yet
  abbrev pub HaltsBefore : language.Ghosts A I → language.Ghosts B O → pass.Ghosts P A B C I O → ℕ → SeatValue (Parts I O C) → Halt → Type 0
  HaltsBefore from to by room seat halt = MayPendOn (IsOfferText from to by) room seat halt.pending

  module _ {D : Type 0} (disk : disks.Ghosts D) (from : language.Ghosts A I) (to : language.Ghosts B O) (by : pass.Ghosts P A B C I O) where
    -- a journal on an honest disk that went on stands for what the node keeps behind these steps, and tells the offer that was made
    abbrev pub LogsSteps : Log D → Log D → ℕ → SeatValue (Parts I O C) → SeatValue (Parts I O C) → Result Bool Halt → Type 0
    LogsSteps old new room s t result =
        disk.is_honest old.disk → old.going ≡ true
        → Recorded (IsOwnText (IsOfferText from to by) t) disk old new room s.words t.words result

    -- so it does behind a turn, which tells what was learned, and whether the journal has more records
    abbrev pub LogsTurn : Log D → Log D → ℕ → SeatValue (Parts I O C) → SeatValue (Parts I O C) → Result Progress Halt → Type 0
    LogsTurn old new room s t result =
        disk.is_honest old.disk → old.going ≡ true
        → Played (IsOwnText (IsOfferText from to by) t) disk old new room s.words t.words result
