-- Settled kept parts: those with which a room can be opened, so that whatever was or may have been chosen stays the only value.
use Rattle.std.specs.Prelude.{◌≡◌, ◌≢◌, ℕ, ◌<◌, ◌≤◌, ◌⊎◌, Bool, false, ◌&&◌, not, ◌==◌, nat_lt, nat_le, Option, Some, None}
use Rattle.paxos_core_world.specs.Ballot.{Owns}
use Rattle.paxos_core_world.specs.KeptPart.{KeptPart, IsWithinPromise}
use Rattle.paxos_core_world.specs.Quorum.{Sizes, IsPromiseQuorum}
use Rattle.paxos_core_world.specs.Step.{HasOffered}
use Rattle.paxos_core_world.specs.declared.vote.Vote.{Vote}

-- these two are the same vote
abbrev pub same_vote : Vote → Vote → Bool
same_vote x y = (x.ballot == y.ballot) && (x.value == y.value)

-- this is the vote that was given
abbrev pub is_given : Vote → Option Vote → Bool
is_given x None = false
is_given x (Some y) = same_vote y x

-- the node has promised at least ballot b
abbrev pub has_promised : ℕ → KeptPart → Bool
has_promised b k = nat_le b k.promised

-- the node can no more give this vote: it has promised above its ballot, and does not hold it
abbrev pub has_passed : Vote → KeptPart → Bool
has_passed y k = nat_lt y.ballot k.promised && not (is_given y k.accepted)

-- ballot b, if it is node i's own, is not above what i has started
abbrev pub IsStarted : ℕ → ℕ → KeptPart → ℕ → Type 0
IsStarted n i k b = Owns n i b → b ≤ k.started

-- node i's own ballots: the one that it started is its own, and no higher one of its own is promised or voted under by anybody
pub record BallotsSettled (n : ℕ) (nodes : ℕ → KeptPart) (i : ℕ) : Type 0 where
  pub own : ((nodes i).started ≡ 0) ⊎ Owns n i (nodes i).started
  pub promised : (j : ℕ) → j < n → IsStarted n i (nodes i) (nodes j).promised
  pub accepted : (j : ℕ) (x : Vote) → j < n → (nodes j).accepted ≡ Some x → IsStarted n i (nodes i) x.ballot

-- a vote: its value is a node that has offered, and a promise quorum has promised at least its ballot
pub record VoteSettled (q : Sizes) (nodes : ℕ → KeptPart) (x : Vote) : Type 0 where
  pub offered : HasOffered q.nodes nodes x.value
  pub quorum : IsPromiseQuorum q (λ a. has_promised x.ballot (nodes a))

-- two votes: those of one ballot have one value, and one of a lower ballot and another value can no more be chosen
pub record PairSettled (q : Sizes) (nodes : ℕ → KeptPart) (x y : Vote) : Type 0 where
  pub same : x.ballot ≡ y.ballot → x.value ≡ y.value
  pub lower : y.ballot < x.ballot → y.value ≢ x.value → IsPromiseQuorum q (λ a. has_passed y (nodes a))

-- the kept parts of the nodes are settled, node by node, with quorums of these sizes
pub record Settled (q : Sizes) (nodes : ℕ → KeptPart) : Type 0 where
  pub within : (i : ℕ) → i < q.nodes → IsWithinPromise (nodes i).promised (nodes i).accepted
  pub ballots : (i : ℕ) → i < q.nodes → BallotsSettled q.nodes nodes i
  pub vote : (i : ℕ) (x : Vote) → i < q.nodes → (nodes i).accepted ≡ Some x → VoteSettled q nodes x
  pub pair : (i j : ℕ) (x y : Vote) → i < q.nodes → j < q.nodes → (nodes i).accepted ≡ Some x → (nodes j).accepted ≡ Some y → PairSettled q nodes x y
