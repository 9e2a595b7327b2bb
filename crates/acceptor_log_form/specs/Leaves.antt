-- What the records of a journal leave of each room.
use Rattle.std.specs.Prelude.{ℕ, ◌==◌, if◌then◌else◌, List, [], ◌∷◌, Option, Some, None}
use Rattle.paxos_core_world.specs.KeptPart.{KeptPart, nothing_kept, part, with_offer, with_start, with_promise, with_vote, vote}
use Rattle.acceptor_log_form.specs.declared.record.Record.{Record}
use Rattle.acceptor_log_form.specs.declared.record.Record.TheVariants.{Offered, Started, Proposed, Promised, Accepted, Summary}
use Rattle.acceptor_log_form.specs.Text.{room_of}

-- the vote that a summary tells: under ballot 0 none
abbrev pub vote_told : ℕ × ℕ → Option (ℕ × ℕ)
vote_told x = if x.0 == 0 then None else Some x

-- the kept part once its node has put the record down; a proposal shows in no kept part
abbrev pub kept_by_record : KeptPart → Record → KeptPart
kept_by_record k (Offered room offer) = with_offer k
kept_by_record k (Started room b) = with_start b k
kept_by_record k (Proposed room b v) = k
kept_by_record k (Promised room b) = with_promise b k
kept_by_record k (Accepted room b v) = with_vote (vote b v) k
kept_by_record k (Summary room s p x) = part k.offered s p (vote_told x)

-- The ballot under which the node proposed last, once it has put the record down. Under the one that a summary tells it
-- may have proposed, so that counts as one.
abbrev pub proposed_by : ℕ → Record → ℕ
proposed_by last (Proposed room b v) = b
proposed_by last (Summary room s p x) = s
proposed_by last _ = last

-- what records leave of a room, in their order, from what was left before them
abbrev pub left_from : {A : Type 0} → (A → Record → A) → A → List Record → ℕ → A
left_from by before [] room = before
left_from by before (r ∷ rs) room = left_from by (if room_of r == room then by before r else before) rs room

-- the kept part of a room
abbrev pub kept_in : List Record → ℕ → KeptPart
kept_in rs room = left_from kept_by_record nothing_kept rs room

-- the ballot under which the node proposed last in a room, 0 for none
abbrev pub proposed_in : List Record → ℕ → ℕ
proposed_in rs room = left_from proposed_by 0 rs room
