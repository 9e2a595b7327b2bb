-- What is looked at, staged and taken in one room, told of all rooms of a node.
use Rattle.std.specs.Prelude.{◌≡◌, ◌≢◌, ℕ, ◌<◌, List, All, Some}
use Rattle.acceptor_log_form.specs.declared.record.Record.{Record}
use Rattle.acceptor_log_form.specs.Text.{room_of}
use Rattle.rooms_crash.specs.SeatState.{SeatState}
use Rattle.farm_nodes_sweep_records.specs.Pending.{ArePending, MayPut, Seats, TakesStep}
use Rattle.farm_nodes_sweep_step.specs.Staged.{HasLooked, MayStep, Steps}

-- each seat that is there was there, and its node has at most looked
abbrev pub HaveLooked : Seats → Seats → Type 0
HaveLooked before after = (m : ℕ) (t : SeatState) → after m ≡ Some t → (s : SeatState) × (before m ≡ Some s) × HasLooked s t

-- the seat of the record's room is as it was
abbrev pub IsStillAt : Seats → Seats → Record → Type 0
IsStillAt before after r = after (room_of r) ≡ before (room_of r)

-- looks leave what is pending pending, where they are in other rooms
abbrev pub LooksLeavePending : Type 0
LooksLeavePending =
    (before after : Seats) (n i rooms : ℕ) (rs pending : List Record) → ArePending before n i rooms rs pending
    → HaveLooked before after → All (IsStillAt before after) pending → ArePending after n i rooms rs pending

-- a record that goes on from what the seat of its room keeps may be put down
abbrev pub StagedMayBePut : Type 0
StagedMayBePut =
    (seats : Seats) (rooms room : ℕ) (s : SeatState) (r : Record) → seats room ≡ Some s → room < rooms
    → MayStep room s r → MayPut seats s.node.quorums.nodes s.node.me rooms r

-- a step that leaves what its record leaves is the taking of that record, where the other seats stay
abbrev pub TakenIsStep : Type 0
TakenIsStep =
    (before after : Seats) (room : ℕ) (s t : SeatState) (r : Record) → before room ≡ Some s → after room ≡ Some t
    → ((m : ℕ) → m ≢ room → after m ≡ before m) → Steps room s t r → TakesStep before after r
