-- Quorums (Lamport, Paxos Made Simple, section 2.2), of two kinds: a proposal rests on the promises of a promise quorum, and a
-- value is chosen by the votes of an accept quorum. A set of nodes is a test on their numbers.
-- Each kind has a size of its own (Howard, Malkhi and Spiegelman, Flexible Paxos, section 4): only a quorum of one kind and one
-- of the other must meet. Proofs rest on this: a set that includes a quorum is one, no quorum is empty, and those two meet.
use Rattle.std.specs.Prelude.{ℕ, zero, suc, ◌+◌, ◌/◌, ◌<◌, ◌≤◌, nat_le, Bool, if◌then◌else◌, IsTrue}

-- the number of the nodes, and of how many of them a promise quorum and an accept quorum consist
pub record Sizes : Type 0 where
  pub nodes : ℕ
  pub promise : ℕ
  pub accept : ℕ

-- the sizes with these numbers
abbrev pub sizes : ℕ → ℕ → ℕ → Sizes
sizes nodes promise accept = record { nodes = nodes; promise = promise; accept = accept }

-- the sizes with which both kinds are more than half of n nodes
abbrev pub majority_sizes : ℕ → Sizes
majority_sizes n = sizes n (n / 2 + 1) (n / 2 + 1)

-- these are sizes of 2 to 7 nodes, with which a promise quorum and an accept quorum are together more than all nodes
pub record AreQuorums (q : Sizes) : Type 0 where
  pub least : 2 ≤ q.nodes
  pub most : q.nodes ≤ 7
  pub some_promise : 1 ≤ q.promise
  pub few_promise : q.promise ≤ q.nodes
  pub some_accept : 1 ≤ q.accept
  pub few_accept : q.accept ≤ q.nodes
  pub meet : q.nodes < q.promise + q.accept

-- how many of the nodes below n are in the set
abbrev pub count_below : ℕ → (ℕ → Bool) → ℕ
count_below zero members = 0
count_below (suc n) members = (if members n then 1 else 0) + count_below n members

-- so many nodes are a promise quorum
unfoldable pub promise_quorum : Sizes → ℕ → Bool
promise_quorum q count = nat_le q.promise count

-- so many nodes are an accept quorum
unfoldable pub accept_quorum : Sizes → ℕ → Bool
accept_quorum q count = nat_le q.accept count

-- the set is a promise quorum
abbrev pub is_promise_quorum : Sizes → (ℕ → Bool) → Bool
is_promise_quorum q members = promise_quorum q (count_below q.nodes members)

-- the set is an accept quorum
abbrev pub is_accept_quorum : Sizes → (ℕ → Bool) → Bool
is_accept_quorum q members = accept_quorum q (count_below q.nodes members)

abbrev pub IsPromiseQuorum : Sizes → (ℕ → Bool) → Type 0
IsPromiseQuorum q members = IsTrue (is_promise_quorum q members)

abbrev pub IsAcceptQuorum : Sizes → (ℕ → Bool) → Type 0
IsAcceptQuorum q members = IsTrue (is_accept_quorum q members)
