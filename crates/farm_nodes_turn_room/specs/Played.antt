-- One turn of a node in one room: what it tells, what it leaves, and why it halts.
use Rattle.std.specs.Prelude.{◌≡◌, ℕ, ◌<◌, Bool, true, false, List, Option, Some, None, Result, Ok, Err}
use Rattle.durable_model.specs.declared.disk.Disk as disks
use Rattle.acceptor_log.specs.declared.log.Log.{Log}
use Rattle.acceptor_log.specs.Acknowledged.{acknowledged}
use Rattle.offers.specs.declared.parts.Parts.{Parts}
use Rattle.rooms_seat_state.specs.SeatState.{SeatState}
use Rattle.farm_nodes_turn_offer.specs.SeatValue.{SeatValue, IsOneRoom, offer_of}
use Rattle.farm_nodes_turn_offer.specs.OfRun.{GoesOn}
use Rattle.farm_nodes_turn_offer.specs.Journalled.{HasGrown}
use Rattle.farm_nodes_turn_offer.specs.declared.halt.Fault.{Fault}
use Rattle.farm_nodes_turn_offer.specs.declared.halt.Fault.TheVariants.{NoMemory, Journal, TooManyRegisters, OtherRecords, CellRefused}
use Rattle.farm_nodes_turn_offer.specs.declared.halt.Halt.{Halt}
use Rattle.farm_nodes_turn_offer.specs.Halted.{HasLeft, left_over}
use Rattle.farm_nodes_turn_offer.specs.Told.{TellNew}
use Rattle.farm_nodes_turn_leading.specs.Leading.{HasStartedNone, IsOldOrStarted}
use Rattle.farm_nodes_turn_room.specs.declared.progress.Progress.{Progress}
use Rattle.farm_nodes_turn_room.specs.declared.progress.Progress.TheVariants.{Learned, Moved, Idle}

abbrev pub moved_or_idle : Bool → Progress
moved_or_idle true = Moved
moved_or_idle false = Idle

-- what a turn brought: what was learned in it, else whether it took a step
abbrev pub progress_of : Option ℕ → Option ℕ → Bool → Progress
progress_of None (Some v) moved = Learned v
progress_of None None moved = moved_or_idle moved
progress_of (Some u) after moved = moved_or_idle moved

-- the input is known, and the pass has no baseline for it
abbrev pub IsTooLarge : {I : Type 0} → (I → Type 0) → Option I → Type 0
IsTooLarge too_large None = ⊥
IsTooLarge too_large (Some input) = too_large input

-- why there is no offer: memory was refused, or the input has no baseline
abbrev pub IsChoiceFault : Type 0 → Fault → Type 0
IsChoiceFault TooLarge NoMemory = Unit {0}
IsChoiceFault TooLarge TooManyRegisters = TooLarge
IsChoiceFault TooLarge (Journal e) = ⊥
IsChoiceFault TooLarge OtherRecords = ⊥
IsChoiceFault TooLarge CellRefused = ⊥

-- where the node made its offer, that goes on from the input, and the seat has seen it
abbrev pub IsMadeOn : {I O C : Type 0} → Option I → SeatValue (Parts I O C) → SeatValue (Parts I O C) → Type 0
IsMadeOn {I} {O} {C} input old new =
    old.words.node.kept.offered ≡ false → new.words.node.kept.offered ≡ true
    → (x : Parts I O C) × (offer_of new new.words.node.me ≡ Some x) × (input ≡ Some x.input)

-- what was seen of offers stays
abbrev pub SeesOn : {T : Type 0} → SeatValue T → SeatValue T → Type 0
SeesOn {T} old new = (j : ℕ) (x : T) → offer_of old j ≡ Some x → offer_of new j ≡ Some x

-- what making an offer leaves of a seat: all but the offer; it goes on in its run
pub record HeldOffer {T : Type 0} (old new : SeatValue T) : Type 0 where
  pub room : IsOneRoom old new
  pub me : new.words.node.me ≡ old.words.node.me
  pub quorums : new.words.node.quorums ≡ old.words.node.quorums
  pub learned : new.words.node.learned ≡ old.words.node.learned
  pub offered : old.words.node.kept.offered ≡ true → new.words.node.kept.offered ≡ true
  pub under_way : HasStartedNone old.words.node new.words.node
  pub seen : SeesOn old new
  pub run : GoesOn old.words new.words

-- what a turn leaves of a seat: the room, its node, its offer, what it had learned and seen, and the ballot under way but for one that it
-- started; it goes on in its run
pub record StaysInTurn {T : Type 0} (old new : SeatValue T) : Type 0 where
  pub room : IsOneRoom old new
  pub me : new.words.node.me ≡ old.words.node.me
  pub quorums : new.words.node.quorums ≡ old.words.node.quorums
  pub learned : (v : ℕ) → old.words.node.learned ≡ Some v → new.words.node.learned ≡ Some v
  pub offered : old.words.node.kept.offered ≡ true → new.words.node.kept.offered ≡ true
  pub under_way : IsOldOrStarted old.words.node new.words.node
  pub seen : SeesOn old new
  pub run : GoesOn old.words new.words

-- What a turn leaves of the journal, by its result: what it tells is what was learned, and whether it has more records. An
-- offer that was made is told, by a text that is so.
abbrev pub Played : {D : Type 0} → (List ℕ → Type 0) → disks.Ghosts D → Log D → Log D → ℕ → SeatState → SeatState → Result Progress Halt → Type 0
Played Is disk old new room s t (Ok progress) =
    (moved : Bool) × HasGrown disk old new room s t moved
    × TellNew Is room s t (acknowledged disk.seen old) (acknowledged disk.seen new)
    × (progress ≡ progress_of s.node.learned t.node.learned moved)
Played Is disk old new room s t (Err halt) =
    HasLeft Is disk old new room s t (left_over room t halt.pending)

-- this is the output of the offer that the node has learned here, as the seat has seen it
pub record IsLearnedOutput {I O C : Type 0} (s : SeatValue (Parts I O C)) (made : O) : Type 0 where
  pub value : ℕ
  pub offer : Parts I O C
  pub learned : s.words.node.learned ≡ Some value
  pub seen : offer_of s value ≡ Some offer
  pub output : made ≡ offer.output

-- no offer of a node of the room is learned and seen
abbrev pub HasLearnedNone : {T : Type 0} → SeatValue T → Type 0
HasLearnedNone {T} s = (v : ℕ) (x : T) → s.words.node.learned ≡ Some v → v < s.words.node.quorums.nodes → offer_of s v ≡ Some x → ⊥
