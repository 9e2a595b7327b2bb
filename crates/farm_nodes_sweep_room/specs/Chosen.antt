-- What is so of what a node does next, by what it is.
use Rattle.std.specs.Prelude.{Option, Some, None, Result, Ok, Err}
use Rattle.acceptor_log_form.specs.declared.record.Record.{Record}
use Rattle.farm_nodes_sweep_step.specs.declared.staging.Staged.{Staged}
use Rattle.farm_nodes_sweep_room.specs.declared.choice.Choice.{Choice}
use Rattle.farm_nodes_sweep_room.specs.declared.choice.Choice.TheVariants.{Offer, Act, Nothing}

-- so it is of what was told, where something was
abbrev pub WhereTold : {A E : Type 0} → Result (Option A) E → (A → Type 0) → Type 0
WhereTold (Ok (Some x)) P = P x
WhereTold (Ok None) P = Unit {0}
WhereTold (Err e) P = Unit {0}

-- so it is where nothing was told, and nothing refused
abbrev pub WhereNone : {A E : Type 0} → Result (Option A) E → Type 0 → Type 0
WhereNone (Ok (Some x)) P = Unit {0}
WhereNone (Ok None) P = P
WhereNone (Err e) P = Unit {0}

module _ {B E : Type 0} where
  -- so it is of the offer and its record, where the node makes one
  abbrev pub WhereOffers : Result (Choice B) E → (Record → B → Type 0) → Type 0
  WhereOffers (Ok (Offer entry offer)) P = P entry offer
  WhereOffers (Ok (Act staged)) P = Unit {0}
  WhereOffers (Ok Nothing) P = Unit {0}
  WhereOffers (Err e) P = Unit {0}

  -- so it is of the step, where it takes one
  abbrev pub WhereActs : Result (Choice B) E → (Staged → Type 0) → Type 0
  WhereActs (Ok (Offer entry offer)) P = Unit {0}
  WhereActs (Ok (Act staged)) P = P staged
  WhereActs (Ok Nothing) P = Unit {0}
  WhereActs (Err e) P = Unit {0}

  -- so it is where it does nothing
  abbrev pub WhereRests : Result (Choice B) E → Type 0 → Type 0
  WhereRests (Ok (Offer entry offer)) P = Unit {0}
  WhereRests (Ok (Act staged)) P = Unit {0}
  WhereRests (Ok Nothing) P = P
  WhereRests (Err e) P = Unit {0}

  -- so it is where it makes no offer, and nothing was refused
  abbrev pub UnlessOffers : Result (Choice B) E → Type 0 → Type 0
  UnlessOffers (Ok (Offer entry offer)) P = Unit {0}
  UnlessOffers (Ok (Act staged)) P = P
  UnlessOffers (Ok Nothing) P = P
  UnlessOffers (Err e) P = Unit {0}

-- the step, where there is one
abbrev pub chosen_by : {B : Type 0} → Option Staged → Choice B
chosen_by (Some staged) = Act staged
chosen_by None = Nothing
