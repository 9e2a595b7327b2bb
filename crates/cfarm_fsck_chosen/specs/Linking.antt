-- The offers that are chosen in the rooms of functions, and whether they go on one from the other.
use Rattle.std.specs.Prelude.{◌≡◌, ℕ, ◌+◌, ◌*◌, ◌<◌, ◌==◌, if◌then◌else◌, List, length, Option, Some, None, slice_get}
use Rattle.std.specs.Global.{Vec}
use Rattle.lang_base.specs.declared.program.Named.{Named}
use Rattle.rtl_language.specs.declared.function.Function.{Function}
use Rattle.paxos_core_world.specs.declared.vote.Vote.{Vote}
use Rattle.paxos_core_world.specs.KeptPart.{KeptPart}
use Rattle.acceptor_log_form.specs.Text.{room_of}
use Rattle.acceptor_log_form.specs.declared.record.Record.{Record}
use Rattle.farm_nodes_open_seats.specs.Kept.{kept_of}
use Rattle.farm_nodes_open_seats.specs.Written.{last_offer_in, offer_by}
use Rattle.cfarm_fsck_linking.specs.Chained.{AreChained, FourTexts}
use Rattle.cfarm_fsck_chosen.specs.Chosen.{chosen_in}

-- the text of the offer in a room, once the record is put down
abbrev pub offer_after : (room : ℕ) → Option (List ℕ) → Record → Option (List ℕ)
offer_after room before r = if room_of r == room then offer_by before r else before

-- the text of the offer of a room in a journal
abbrev pub offer_at : Option (ℕ × Vec Record) → ℕ → Option (List ℕ)
offer_at None room = None
offer_at (Some journal) room = last_offer_in journal.1.items room

-- and of the node whose number a vote names
abbrev pub offer_voted : List (ℕ × Vec Record) → ℕ → Option Vote → Option (List ℕ)
offer_voted journals room None = None
offer_voted journals room (Some vote) = offer_at (slice_get journals vote.value) room

module _ (accept : ℕ) (journals : List (ℕ × Vec Record)) (kept : List (Vec KeptPart)) where
  -- that of the vote which is chosen in the room
  abbrev pub chosen_text : ℕ → Option (List ℕ)
  chosen_text room = offer_voted journals room (chosen_in accept (kept_of kept room))

  -- those of the four rooms of a function
  abbrev pub chosen_texts : ℕ → FourTexts
  chosen_texts f = record {
    constants = chosen_text (4 * f);
    expressions = chosen_text (4 * f + 1);
    allocation = chosen_text (4 * f + 2);
    order = chosen_text (4 * f + 3);
  }

  -- the offers that are chosen of this function go on from it and one from the other
  abbrev pub GoesOn : ℕ → Function → Type 0
  GoesOn f function = AreChained function (chosen_texts f)

  -- so do those of the first functions, so many
  abbrev pub AllGoOn : List (Named Function) → ℕ → Type 0
  AllGoOn functions count = (f : ℕ) (x : Named Function) → f < count → slice_get functions f ≡ Some x → GoesOn f x.function

  -- this function's do not, and those of all in front of it do
  pub record IsFirstUnchained (functions : List (Named Function)) (f : ℕ) : Type 0 where
    pub function : Named Function
    pub there : slice_get functions f ≡ Some function
    pub broken : GoesOn f function.function → ⊥
    pub front : AllGoOn functions f

  -- there is none such, or it is this one
  abbrev pub IsAnsweredFirst : List (Named Function) → Option ℕ → Type 0
  IsAnsweredFirst functions None = AllGoOn functions (length functions)
  IsAnsweredFirst functions (Some f) = IsFirstUnchained functions f
