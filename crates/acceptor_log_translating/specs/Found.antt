-- What is found of the rooms that records name.
use Rattle.std.specs.Prelude.{◌≡◌, ◌⊎◌, ℕ, ◌+◌, ◌<◌, ◌≤◌, ◌^◌, List, All, Some, true, false, take, drop, length, slice_get, IfSome}
use Rattle.paxos_core_world.specs.KeptPart.{KeptPart, nothing_kept}
use Rattle.acceptor_log_form.specs.declared.record.Record.{Record}
use Rattle.acceptor_log_form.specs.declared.record.Record.TheVariants.{Offered, Started, Proposed, Promised, Accepted, Summary}
use Rattle.acceptor_log_form.specs.Text.{blocks, Fits}
use Rattle.acceptor_log_form.specs.Leaves.{kept_in, proposed_in}
use Rattle.acceptor_log_form.specs.Order.{MayComeNext, AreInOrder}
use Rattle.acceptor_log_old.specs.OldText.{is_plain, are_plain}
use Rattle.acceptor_log_translating.specs.declared.stepping.Room.{Room}
use Rattle.acceptor_log_translating.specs.declared.finding.Found.{Found}
use Rattle.acceptor_log_old.specs.Migrated.{AreOfRooms, first_offer_in, offered}

-- the bytes from one place up to another
abbrev pub part_at : List ℕ → ℕ × ℕ → List ℕ
part_at bytes place = drop place.0 (take place.1 bytes)

-- nothing was found of a room
abbrev pub nothing_found : Room
nothing_found = record { kept = nothing_kept; proposed = 0; place = (0, 0) }

-- where a room's offer stands once a record was read that stands at now
abbrev pub place_by : ℕ × ℕ → ℕ × ℕ → Record → ℕ × ℕ
place_by was now (Offered room offer) = now
place_by was now (Started room b) = was
place_by was now (Proposed room b v) = was
place_by was now (Promised room b) = was
place_by was now (Accepted room b v) = was
place_by was now (Summary room s p x) = was

-- a record that an old journal may not have, or that does not go on from what was left of its room
abbrev pub IsBroken : ℕ → ℕ → KeptPart → ℕ → Record → Type 0
IsBroken n i kept proposed r = is_plain r ≡ true → MayComeNext n i kept proposed r → ⊥

-- records that an old journal may not have, or that break the order
abbrev pub AreBroken : ℕ → ℕ → List Record → Type 0
AreBroken n i rs = are_plain rs ≡ true → AreInOrder n i (2 ^ 16) rs → ⊥

-- a place in some bytes
pub record IsPlace (bytes : List ℕ) (place : ℕ × ℕ) : Type 0 where
  pub ends : place.0 ≤ place.1
  pub within : place.1 ≤ length bytes

-- the blocks of records stand there, with their gates
pub record ArePlaced (bytes : List ℕ) (rs : List Record) (place : ℕ × ℕ) : Type 0 where
  pub at : IsPlace bytes place
  pub text : part_at bytes place ≡ blocks rs
  pub fits : All Fits rs

-- what was found of a room: what the records leave of it, and where the offer stands that was put down there
pub record IsFound (bytes : List ℕ) (rs : List Record) (m : ℕ) (x : Room) : Type 0 where
  pub kept : x.kept ≡ kept_in rs m
  pub proposed : x.proposed ≡ proposed_in rs m
  pub offer : ArePlaced bytes (offered m (first_offer_in rs m)) x.place

-- of each of so many rooms, by their numbers
abbrev pub EachIsFound : List ℕ → List Record → List Room → Type 0
EachIsFound bytes rs rooms = (m : ℕ) (x : Room) → slice_get rooms m ≡ Some x → IsFound bytes rs m x

-- of all rooms that records name, which an old journal may have
pub record AreFound (n i : ℕ) (bytes : List ℕ) (rs : List Record) (rooms : List Room) : Type 0 where
  pub plain : are_plain rs ≡ true
  pub in_order : AreInOrder n i (2 ^ 16) rs
  pub most : length rooms ≤ 2 ^ 16
  pub named : AreOfRooms (length rooms) rs
  pub each : EachIsFound bytes rs rooms

-- what was found, as long as an old journal may have the records
pub record IsFoundIn (n i : ℕ) (bytes : List ℕ) (rs : List Record) (found : Found) : Type 0 where
  pub sound : found.are_sound ≡ true → AreFound n i bytes rs found.rooms.items
  pub broken : found.are_sound ≡ false → AreBroken n i rs

-- rooms of which nothing was found stand behind, so that there is one of this number
pub record AreWidened (number : ℕ) (old new : List Room) : Type 0 where
  pub there : number < length new
  pub no_less : length old ≤ length new
  pub no_more : (length new ≤ length old) ⊎ (length new ≤ number + 1)
  pub each : (m : ℕ) (x : Room) → slice_get new m ≡ Some x
      → (slice_get old m ≡ Some x) ⊎ ((length old ≤ m) × (x ≡ nothing_found))

-- what was found of a room can be written: its place is there, and the node that it voted for has a number of one byte
pub record CanBeWritten (bytes : List ℕ) (x : Room) : Type 0 where
  pub at : IsPlace bytes x.place
  pub vote : IfSome x.kept.accepted (λ vote. vote.value < 256)
