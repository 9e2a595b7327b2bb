-- The order of records in a room.
use Rattle.std.specs.Prelude.{◌≡◌, ◌≢◌, ◌⊎◌, ℕ, ◌<◌, ◌≤◌, false, List, take, Some, slice_get, IfSome}
use Rattle.paxos_core_world.specs.Ballot.{Owns}
use Rattle.paxos_core_world.specs.KeptPart.{KeptPart}
use Rattle.acceptor_log_form.specs.declared.header.Header.{Header}
use Rattle.acceptor_log_form.specs.declared.record.Record.{Record}
use Rattle.acceptor_log_form.specs.declared.record.Record.TheVariants.{Offered, Started, Proposed, Promised, Accepted, Summary}
use Rattle.acceptor_log_form.specs.Text.{room_of}
use Rattle.acceptor_log_form.specs.Leaves.{kept_in, proposed_in}

-- a summary of ballots up to p tells no vote, or one for a node's offer under a ballot that is not above p
abbrev pub IsVoteWithin : ℕ → ℕ → ℕ × ℕ → Type 0
IsVoteWithin n p x = ((x.0 ≡ 0) × (x.1 ≡ 0)) ⊎ ((1 ≤ x.0) × (x.0 ≤ p) × (x.1 < n))

-- A summary stands in front of all other records of its room but the offer; the ballot that it says was started is an own
-- one, or 0 for none; its vote is within the promise; and it tells something.
abbrev pub Opens : ℕ → ℕ → KeptPart → ℕ → ℕ → ℕ × ℕ → Type 0
Opens n i kept s p x =
    (kept.started ≡ 0) × (kept.promised ≡ 0) × ((s ≡ 0) ⊎ Owns n i s) × IsVoteWithin n p x × ((0 < s) ⊎ (0 < p))

-- What node i of n may put down of a room in which it has kept this part, and proposed last under this ballot: one
-- offer; an own ballot above the last that it started; a value under the ballot that it started last, once; a ballot
-- above the one promised; a vote whose ballot is not below the promised one, and not again under the ballot of the last
-- vote; a summary before all but the offer. Ballots are numbered from 1, and a value is the number of a node.
abbrev pub MayComeNext : ℕ → ℕ → KeptPart → ℕ → Record → Type 0
MayComeNext n i kept proposed (Offered room offer) = kept.offered ≡ false
MayComeNext n i kept proposed (Started room b) = Owns n i b × (kept.started < b)
MayComeNext n i kept proposed (Proposed room b v) = (1 ≤ b) × (b ≡ kept.started) × (proposed ≢ b) × (v < n)
MayComeNext n i kept proposed (Promised room b) = kept.promised < b
MayComeNext n i kept proposed (Accepted room b v) =
    (1 ≤ b) × (kept.promised ≤ b) × IfSome kept.accepted (λ x. x.ballot ≢ b) × (v < n)
MayComeNext n i kept proposed (Summary room s p x) = Opens n i kept s p x

-- a record of one of so many rooms that goes on from what those in front of it leave there
abbrev pub MayFollow : ℕ → ℕ → ℕ → List Record → Record → Type 0
MayFollow n i rooms before r =
    (room_of r < rooms) × MayComeNext n i (kept_in before (room_of r)) (proposed_in before (room_of r)) r

-- The records of node i of n, in so many rooms, are in order: each may follow those in front of it.
abbrev pub AreInOrder : ℕ → ℕ → ℕ → List Record → Type 0
AreInOrder n i rooms rs = (k : ℕ) (r : Record) → slice_get rs k ≡ Some r → MayFollow n i rooms (take k rs) r

-- so are those of the journal with this header
abbrev pub KeepOrder : Header → ℕ → List Record → Type 0
KeepOrder h = AreInOrder h.nodes h.node
