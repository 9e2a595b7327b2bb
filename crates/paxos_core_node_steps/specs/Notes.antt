-- What a node has noted of the others: lists with a place for each node, none where nothing is noted.
use Rattle.std.specs.Prelude.{ℕ, zero, suc, ◌==◌, nat_lt, Bool, false, if◌then◌else◌, List, Option, Some, None, is_some, slice_index_or}
use Rattle.paxos_core_world.specs.declared.vote.Vote.{Vote}

-- what is noted of node a
abbrev pub note_of : {T : Type 0} → List (Option T) → ℕ → Option T
note_of notes a = slice_index_or notes a None

-- a promise of node a is noted
abbrev pub has_promised : List (Option (Option Vote)) → ℕ → Bool
has_promised promises a = is_some (note_of promises a)

-- the vote that a noted promise reports
abbrev pub reported : Option (Option Vote) → Option Vote
reported None = None
reported (Some report) = report

-- what node a's promise reports
abbrev pub report_of : List (Option (Option Vote)) → ℕ → Option Vote
report_of promises a = reported (note_of promises a)

-- a vote is noted, under this ballot
abbrev pub is_under : ℕ → Option Vote → Bool
is_under ballot None = false
is_under ballot (Some vote) = vote.ballot == ballot

-- a vote of node a is noted, under this ballot
abbrev pub has_voted : List (Option Vote) → ℕ → ℕ → Bool
has_voted votes ballot a = is_under ballot (note_of votes a)

-- of two reports the one with the higher ballot, of equal ballots the first
abbrev pub higher : Option Vote → Option Vote → Option Vote
higher None report = report
higher (Some held) None = Some held
higher (Some held) (Some vote) = if nat_lt held.ballot vote.ballot then Some vote else Some held

-- the vote with the highest ballot that promises of nodes below n report
abbrev pub highest_below : ℕ → List (Option (Option Vote)) → Option Vote
highest_below zero promises = None
highest_below (suc n) promises = higher (highest_below n promises) (report_of promises n)
