-- Whether the records of offers have the texts of those in the node's own cells.
use Rattle.std.specs.Prelude.{◌≡◌, ◌⊎◌, ℕ, ◌<◌, Bool, true, false, List, Some, slice_get, Result, Ok, Err}
use Rattle.lang_base.specs.declared.errors.NoMemory.{NoMemory}
use Rattle.acceptor_log_form.specs.declared.errors.LogError.{LogError}
use Rattle.acceptor_log_form.specs.declared.errors.LogError.TheVariants as log
use Rattle.acceptor_log_form.specs.declared.record.Record.{Record}
use Rattle.acceptor_log_form.specs.declared.record.Record.TheVariants.{Offered}
use Rattle.farm_nodes_turn_passes.specs.Numbers.{function_of, pass_of}
use Rattle.farm_nodes_turn_passes.specs.Fours.{Four}
use Rattle.farm_nodes_turn_passes.specs.Texts.{Texts, IsOwnTextIn}
use Rattle.farm_nodes_restart_records.specs.declared.finding.Found.{Found}
use Rattle.farm_nodes_restart_records.specs.declared.finding.Found.TheVariants as found
use Rattle.farm_nodes_restart_records.specs.Found.{IsButLast}

-- what becomes of an answer by what the seats keep, once it is told whether the texts are those of the offers
abbrev pub settled_by : Result Bool NoMemory → Found → Result Found LogError
settled_by (Ok true) kept = Ok kept
settled_by (Ok false) kept = Ok found.Neither
settled_by (Err e) kept = Err log.NoMemory

module _ {X1 X2 X3 X4 : Type 0} (texts : Texts X1 X2 X3 X4) (seats : List (Four X1 X2 X3 X4)) where
  -- the room is one of the seats', and this is the text of the offer in the node's cell there
  abbrev pub IsTextAt : ℕ → List ℕ → Type 0
  IsTextAt room text =
      (s : Four X1 X2 X3 X4) × (slice_get seats (function_of room) ≡ Some s) × IsOwnTextIn texts (pass_of room) s text

  -- it is so of the record, if that is of an offer
  abbrev pub TellsItsOffer : Record → Type 0
  TellsItsOffer r = (room : ℕ) (text : List ℕ) → r ≡ Offered room text → IsTextAt room text

  -- of the records below a place
  abbrev pub AreToldTo : List Record → ℕ → Type 0
  AreToldTo rs n = (k : ℕ) (r : Record) → k < n → slice_get rs k ≡ Some r → TellsItsOffer r

  -- of all
  abbrev pub AreTold : List Record → Type 0
  AreTold rs = (k : ℕ) (r : Record) → slice_get rs k ≡ Some r → TellsItsOffer r

  -- What they are, where they are this by what the seats keep: the same where the records tell their offers, else neither. Behind a
  -- pending record those in front of it have to.
  abbrev pub IsConfirmed : List Record → Found → Found → Type 0
  IsConfirmed rs found.Pending r =
      (front : List Record) × IsButLast rs front
      × ((AreTold front × (r ≡ found.Pending)) ⊎ ((AreTold front → ⊥) × (r ≡ found.Neither)))
  IsConfirmed rs found.Whole r = (AreTold rs × (r ≡ found.Whole)) ⊎ ((AreTold rs → ⊥) × (r ≡ found.Neither))
  IsConfirmed rs found.Neither r = r ≡ found.Neither
