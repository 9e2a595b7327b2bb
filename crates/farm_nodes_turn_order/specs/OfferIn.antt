-- The offer of a room among records.
use Rattle.std.specs.Prelude.{◌≡◌, ℕ, List, Option, Some, None}
use Rattle.acceptor_log_form.specs.declared.record.Record.{Record}
use Rattle.acceptor_log_form.specs.declared.record.Record.TheVariants.{Offered}
use Rattle.acceptor_log_form.specs.Leaves.{left_from}

-- the text of the offer that stands in a room, once the record is put down
abbrev pub offer_by : Option (List ℕ) → Record → Option (List ℕ)
offer_by before (Offered room text) = Some text
offer_by before _ = before

-- the text of the offer in a room, if there is one
abbrev pub last_offer_in : List Record → ℕ → Option (List ℕ)
last_offer_in rs room = left_from offer_by None rs room

-- there is one, and it is so
abbrev pub IsToldAs : (List ℕ → Type 0) → Option (List ℕ) → Type 0
IsToldAs Is told = (text : List ℕ) × (told ≡ Some text) × Is text
