-- The invariant of a room: what holds of every world of a run from settled kept parts. Agreement follows from it.
use Rattle.std.proofs.Common.{◌≡◌, ℕ, ◌<◌, ◌≤◌, ◌⊎◌, Bool, IsTrue, Option, Some}
use Rattle.paxos_core_world.specs.Ballot.{Owns}
use Rattle.paxos_core_world.specs.KeptPart.{IsWithinPromise, vote}
use Rattle.paxos_core_world.specs.Quorum.{Sizes, AreQuorums, IsPromiseQuorum}
use Rattle.paxos_core_world.specs.Settled.{has_promised}
use Rattle.paxos_core_world.specs.Step.{HasOffered, IsChosen}
use Rattle.paxos_core_world.specs.World.{World, Has}
use Rattle.paxos_core_world.specs.declared.msg.Msg.TheVariants.{Prepare, Promise, Propose, Accepted}
use Rattle.paxos_core_world.specs.declared.vote.Vote.{Vote}

-- the report names a vote whose ballot is at least c
abbrev pub Reports : Option Vote → ℕ → Type 0
Reports report c = (x : Vote) × (report ≡ Some x) × (c ≤ x.ballot)

-- node a has voted for v under b: its promise is not below, its kept vote is not lower, and b was proposed or is none of this run's ballots
pub record VoteKept (n : ℕ) (w : World) (a b v : ℕ) : Type 0 where
  pub node : a < n
  pub bound : b ≤ (w.nodes a).promised
  pub kept : Reports (w.nodes a).accepted b
  pub origin : Has (Propose b v) w.sent ⊎ ¬ Has b w.begun

-- node a has promised b: its report is a vote of its own below b, and no vote of its own below b is higher
pub record PromiseKept (n : ℕ) (w : World) (a b : ℕ) (report : Option Vote) : Type 0 where
  pub node : a < n
  pub bound : b ≤ (w.nodes a).promised
  pub lower : (x : Vote) → report ≡ Some x → x.ballot < b
  pub voted : (x : Vote) → report ≡ Some x → Has (Accepted a x.ballot x.value) w.sent
  pub highest : (c u : ℕ) → Has (Accepted a c u) w.sent → c < b → Reports report c

-- v was proposed under b, or somebody voted for it under b
abbrev pub Backed : World → ℕ → ℕ → Type 0
Backed w b v = Has (Propose b v) w.sent ⊎ ((a : ℕ) × Has (Accepted a b v) w.sent)

-- u can no more be chosen under c: all of a promise quorum have promised above c, and did not vote for it
pub record IsPassed (q : Sizes) (w : World) (c u : ℕ) : Type 0 where
  pub members : ℕ → Bool
  pub quorum : IsPromiseQuorum q members
  pub above : (a : ℕ) → a < q.nodes → IsTrue (members a) → c < (w.nodes a).promised
  pub silent : (a : ℕ) → a < q.nodes → IsTrue (members a) → ¬ Has (Accepted a c u) w.sent

pub record Invariant (q : Sizes) (w : World) : Type 0 where
  -- a promise quorum and an accept quorum meet
  pub sizes : AreQuorums q
  -- a kept vote was sent, and its ballot is from 1 to the promised one
  pub within : (a : ℕ) → a < q.nodes → IsWithinPromise (w.nodes a).promised (w.nodes a).accepted
  pub kept : (a : ℕ) (x : Vote) → a < q.nodes → (w.nodes a).accepted ≡ Some x → Has (Accepted a x.ballot x.value) w.sent
  -- what a vote and a promise that were sent say of their sender
  pub votes : (a b v : ℕ) → Has (Accepted a b v) w.sent → VoteKept q.nodes w a b v
  pub promises : (a b : ℕ) (report : Option Vote) → Has (Promise a b report) w.sent → PromiseKept q.nodes w a b report
  -- one value a ballot
  pub one_vote : (a c b v u : ℕ) → Has (Accepted a b v) w.sent → Has (Accepted c b u) w.sent → v ≡ u
  pub one_proposal : (b v u : ℕ) → Has (Propose b v) w.sent → Has (Propose b u) w.sent → v ≡ u
  -- a proposal's ballot is begun, and a begun ballot was prepared by a node that owns it
  pub proposed : (b v : ℕ) → Has (Propose b v) w.sent → Has b w.begun
  pub begun : (b : ℕ) → Has b w.begun → Has (Prepare b) w.sent
  pub begun_own : (b : ℕ) → Has b w.begun → (i : ℕ) × (i < q.nodes) × Owns q.nodes i b
  -- a node has started its own ballots alone and prepared the last, and none of them that was prepared, promised or voted under is higher
  pub own : (i : ℕ) → i < q.nodes → ((w.nodes i).started ≡ 0) ⊎ Owns q.nodes i (w.nodes i).started
  pub started : (i : ℕ) → i < q.nodes → 1 ≤ (w.nodes i).started → Has (Prepare (w.nodes i).started) w.sent
  pub prepared : (i b : ℕ) → i < q.nodes → Has (Prepare b) w.sent → Owns q.nodes i b → b ≤ (w.nodes i).started
  pub promised : (i a : ℕ) → i < q.nodes → a < q.nodes → Owns q.nodes i (w.nodes a).promised → (w.nodes a).promised ≤ (w.nodes i).started
  pub voted : (i a b v : ℕ) → i < q.nodes → Has (Accepted a b v) w.sent → Owns q.nodes i b → b ≤ (w.nodes i).started
  -- what was proposed or voted for is a node that has offered, and a promise quorum has promised its ballot
  pub offered : (b v : ℕ) → Backed w b v → HasOffered q.nodes w.nodes v
  pub backed : (b v : ℕ) → Backed w b v → IsPromiseQuorum q (λ a. has_promised b (w.nodes a))
  -- once it is proposed or voted for, no other value can be chosen under a lower ballot
  pub safe : (b v c u : ℕ) → Backed w b v → c < b → (u ≡ v → ⊥) → IsPassed q w c u
  -- a node whose promised ballot is begun has sent that promise, with the vote that it still keeps, or a vote under it
  pub answered : (a : ℕ) → a < q.nodes → Has (w.nodes a).promised w.begun
      → Has (Promise a (w.nodes a).promised (w.nodes a).accepted) w.sent
      ⊎ ((v : ℕ) × ((w.nodes a).accepted ≡ Some (vote (w.nodes a).promised v)))
  -- what is learned was chosen
  pub learned : (i v : ℕ) → Has (i, v) w.learned → (b : ℕ) × IsChosen q w b v
