-- The parts of the test of settled kept parts, one for each of its functions.
use Rattle.std.specs.Prelude.{ℕ, ◌<◌, ◌≤◌, IfSome}
use Rattle.paxos_core_world.specs.KeptPart.{KeptPart, IsWithinPromise}
use Rattle.paxos_core_world.specs.Quorum.{Sizes}
use Rattle.paxos_core_world.specs.Settled.{BallotsSettled, VoteSettled, PairSettled}
use Rattle.paxos_core_world.specs.declared.vote.Vote.{Vote}
use Rattle.paxos_core_world.specs.Ballot.{Owns}

-- no ballot that the part promised or voted under is one of node i's own above the started one
pub record IsCovered (n i started : ℕ) (k : KeptPart) : Type 0 where
  pub promised : Owns n i k.promised → k.promised ≤ started
  pub accepted : IfSome k.accepted (λ x. Owns n i x.ballot → x.ballot ≤ started)

-- the vote is settled, and so is it with every vote that is held
pub record VoteStands (q : Sizes) (nodes : ℕ → KeptPart) (x : Vote) : Type 0 where
  pub vote : VoteSettled q nodes x
  pub pair : (j : ℕ) → j < q.nodes → IfSome (nodes j).accepted (PairSettled q nodes x)

-- the node's vote is within its promise and stands, and its ballots are settled
pub record NodeSettled (q : Sizes) (nodes : ℕ → KeptPart) (i : ℕ) : Type 0 where
  pub within : IsWithinPromise (nodes i).promised (nodes i).accepted
  pub vote : IfSome (nodes i).accepted (VoteStands q nodes)
  pub ballots : BallotsSettled q.nodes nodes i
