-- A node learns at once (Lamport, Paxos Made Simple, section 2.3): where it has learned nothing, no ballot has an accept
-- quorum of the votes that it has noted.
use Rattle.std.specs.Prelude.{ℕ, List, Option, IsSome}
use Rattle.paxos_core_world.specs.Quorum.{Sizes, IsAcceptQuorum}
use Rattle.paxos_core_world.specs.declared.vote.Vote.{Vote}
use Rattle.paxos_core_late_offers.specs.Notes.{has_voted}

-- once an accept quorum is noted with votes of one ballot, a value is learned
abbrev pub LearnsAtOnce : Sizes → List (Option Vote) → Option ℕ → Type 0
LearnsAtOnce q votes learned = (b : ℕ) → IsAcceptQuorum q (has_voted votes b) → IsSome learned
