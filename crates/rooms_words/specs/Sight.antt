-- What a seat has last seen of a node's words: it is not above what stands there, and the messages that it shows were sent.
use Rattle.std.specs.Prelude.{◌≡◌, ℕ, ◌≤◌, Some}
use Rattle.paxos_core_world.specs.World.{World, Has}
use Rattle.paxos_core_world.specs.declared.msg.Msg.TheVariants.{Prepare, Propose, Accepted}
use Rattle.paxos_core_world.specs.declared.vote.Vote.{Vote}
use Rattle.rooms_words.specs.declared.acceptor.AcceptorWord.{AcceptorWord}
use Rattle.rooms_words.specs.declared.proposer.ProposerWord.{ProposerWord}
use Rattle.rooms_words.specs.NotBelow.{ProposerNotBelow, AcceptorNotBelow}
use Rattle.rooms_words.specs.WordsOf.{proposed_by}

-- of node j's proposer
pub record ProposerSeen (w : World) (j : ℕ) (x : ProposerWord) : Type 0 where
  pub below : ProposerNotBelow (w.nodes j).started (proposed_by w j) x.started x.proposed
  pub prepare : 1 ≤ x.started → Has (Prepare x.started) w.sent
  pub propose : (v : ℕ) → x.proposed ≡ Some v → Has (Propose x.started v) w.sent

-- of node j's acceptor
pub record AcceptorSeen (w : World) (j : ℕ) (x : AcceptorWord) : Type 0 where
  pub below : AcceptorNotBelow (w.nodes j).promised (w.nodes j).accepted x.promised x.accepted
  pub vote : (y : Vote) → x.accepted ≡ Some y → Has (Accepted j y.ballot y.value) w.sent
