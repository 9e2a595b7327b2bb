-- What the theorem of the model gives of a world that can come about.
use Rattle.std.proofs.Common.{◌≡◌, ℕ, ◌<◌, ◌≤◌, sym, subst}
use Rattle.paxos_core_world.specs.Ballot.{Owns}
use Rattle.paxos_core_world.specs.Quorum.{Sizes}
use Rattle.paxos_core_world.specs.World.{World, Has}
use Rattle.paxos_core_world.specs.declared.msg.Msg.TheVariants.{Propose, Accepted}
use Rattle.paxos_core_theorem.specs.Invariant.{Invariant}
use Rattle.paxos_core_theorem.proofs.Theorem.{holds, learns_one}
use Rattle.paxos_core_node_steps.specs.Reached.{IsReached}

reached_holds : (z : Sizes) (w : World) → IsReached z w → Invariant z w
reached_holds z w r = subst (λ (v : World). Invariant z v) (sym r.world) (holds z r.nodes r.steps r.run)

-- what is proposed under a ballot of node i is not above what i has started
pub proposed-started : (z : Sizes) (w : World) (i b v : ℕ) → IsReached z w → i < z.nodes → Owns z.nodes i b → Has (Propose b v) w.sent → b ≤ (w.nodes i).started
proposed-started z w i b v r h o p =
    let all = reached_holds z w r in all.prepared i b h (all.begun b (all.proposed b v p)) o

-- votes under one ballot have one value
pub one_vote : (z : Sizes) (w : World) (a c b v u : ℕ) → IsReached z w → Has (Accepted a b v) w.sent → Has (Accepted c b u) w.sent → v ≡ u
one_vote z w a c b v u r h k = (reached_holds z w r).one_vote a c b v u h k

-- learned values are equal
pub learned_one : (z : Sizes) (w : World) (i j v u : ℕ) → IsReached z w → Has (i, v) w.learned → Has (j, u) w.learned → v ≡ u
learned_one z w i j v u r h k = learns_one z w (reached_holds z w r) i j v u h k
