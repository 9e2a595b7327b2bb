-- When a node is one of those in a world: what it keeps stands there, and what it has noted has happened there.
use Rattle.std.specs.Prelude.{◌≡◌, ℕ, ◌<◌, Bool, false, Option, Some}
use Rattle.paxos_core_world.specs.Ballot.{Owns}
use Rattle.paxos_core_world.specs.Quorum.{Sizes}
use Rattle.paxos_core_world.specs.World.{World, Has}
use Rattle.paxos_core_world.specs.declared.msg.Msg.TheVariants.{Promise, Propose, Accepted}
use Rattle.paxos_core_world.specs.declared.vote.Vote.{Vote}
use Rattle.paxos_core_node_steps.specs.NodeState.{NodeState}
use Rattle.paxos_core_node_steps.specs.Notes.{note_of}

-- ballot b of node i is begun, and only if it has proposed is anything proposed under it
pub record IsUnderWay (n : ℕ) (w : World) (i b : ℕ) (proposed : Bool) : Type 0 where
  pub own : Owns n i b
  pub begun : Has b w.begun
  pub unproposed : proposed ≡ false → (v : ℕ) → ¬ Has (Propose b v) w.sent

-- the node is node s.me of the world's nodes, with the world's quorums; a ballot that it has under way is the one that it keeps as started
pub record Belongs (q : Sizes) (w : World) (s : NodeState) : Type 0 where
  pub quorums : s.quorums ≡ q
  pub number : s.me < q.nodes
  pub kept : w.nodes s.me ≡ s.kept
  pub ballot : (b : ℕ) → s.ballot ≡ Some b → IsUnderWay q.nodes w s.me b s.proposed
  pub started : (b : ℕ) → s.ballot ≡ Some b → s.kept.started ≡ b
  pub promises : (b a : ℕ) (report : Option Vote) → s.ballot ≡ Some b → note_of s.promises a ≡ Some report → Has (Promise a b report) w.sent
  pub votes : (a : ℕ) (x : Vote) → note_of s.votes a ≡ Some x → Has (Accepted a x.ballot x.value) w.sent
  pub learned : (v : ℕ) → s.learned ≡ Some v → Has (s.me, v) w.learned
