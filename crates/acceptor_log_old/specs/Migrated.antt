-- The records that a migrated journal has: of each room the offer that was put down there, and all that is kept of it.
use Rattle.std.specs.Prelude.{ℕ, zero, suc, ◌<◌, ◌==◌, ◌&&◌, ◌^◌, if◌then◌else◌, List, [], ◌∷◌, ◌++◌, Option, Some, None, All}
use Rattle.paxos_core_world.specs.declared.vote.Vote.{Vote}
use Rattle.paxos_core_world.specs.KeptPart.{KeptPart}
use Rattle.acceptor_log_form.specs.declared.record.Record.{Record}
use Rattle.acceptor_log_form.specs.declared.record.Record.TheVariants.{Offered, Started, Proposed, Promised, Accepted, Summary}
use Rattle.acceptor_log_form.specs.Text.{room_of}
use Rattle.acceptor_log_form.specs.Leaves.{kept_in}

-- each record names one of so many rooms
abbrev pub AreOfRooms : ℕ → List Record → Type 0
AreOfRooms rooms rs = All (λ r. room_of r < rooms) rs

-- the first offer that was put down in a room
abbrev pub first_offer_in : List Record → ℕ → Option (List ℕ)
first_offer_in [] room = None
first_offer_in (Offered m offer ∷ rs) room = if m == room then Some offer else first_offer_in rs room
first_offer_in (Started m b ∷ rs) room = first_offer_in rs room
first_offer_in (Proposed m b v ∷ rs) room = first_offer_in rs room
first_offer_in (Promised m b ∷ rs) room = first_offer_in rs room
first_offer_in (Accepted m b v ∷ rs) room = first_offer_in rs room
first_offer_in (Summary m s p x ∷ rs) room = first_offer_in rs room

-- the vote as a summary tells it
abbrev pub told : Option Vote → ℕ × ℕ
told None = (0, 0)
told (Some x) = (x.ballot, x.value)

-- the summary of a room, where there is something to tell: a vote's ballot is not above the promised one
abbrev pub summary_of : ℕ → KeptPart → List Record
summary_of room k =
    if k.started == 0 && k.promised == 0 then [] else Summary room k.started k.promised (told k.accepted) ∷ []

abbrev pub offered : ℕ → Option (List ℕ) → List Record
offered room None = []
offered room (Some offer) = Offered room offer ∷ []

-- what is put down of a room
abbrev pub of_room : List Record → ℕ → List Record
of_room rs room = offered room (first_offer_in rs room) ++ summary_of room (kept_in rs room)

-- of all rooms below n, rising
abbrev pub migrated_below : List Record → ℕ → List Record
migrated_below rs zero = []
migrated_below rs (suc n) = migrated_below rs n ++ of_room rs n

-- of all rooms that a record can name
unfoldable pub migrated : List Record → List Record
migrated rs = migrated_below rs (2 ^ 16)
