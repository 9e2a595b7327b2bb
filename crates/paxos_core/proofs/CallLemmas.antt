-- What no call of a node changes.
use Rattle.std.proofs.Common.{◌≡◌, ℕ, Bool, cond, length, Option, Some, None, refl, ◌∙◌}
use Rattle.std.proofs.Math.ListN.{length-set}
use Rattle.std.proofs.lemmas.Bool.{cond_both}
use Rattle.paxos_core_world.specs.KeptPart.{KeptPart, vote}
use Rattle.paxos_core_world.specs.declared.msg.Msg.{Msg}
use Rattle.paxos_core_world.specs.declared.msg.Msg.TheVariants.{Prepare, Promise, Propose, Accepted}
use Rattle.paxos_core_world.specs.Quorum.{Sizes}
use Rattle.paxos_core_late_offers.specs.Acceptor.{promises, accepts}
use Rattle.paxos_core.specs.Call.{Call, Offer, Start, Proposal, On, Restart, has_ballot, after_call}
use Rattle.paxos_core_late_offers.specs.Learner.{notes_promise, notes_vote}
use Rattle.paxos_core_late_offers.specs.NodeState.{NodeState, node_with}
use Rattle.paxos_core_late_offers.specs.Proposer.{proposal, after_answer}

-- it is node i of a room with these quorums, and has a place for a vote of each of seven
pub record IsNode (i : ℕ) (z : Sizes) (s : NodeState) : Type 0 where
  pub number : s.me ≡ i
  pub quorums : s.quorums ≡ z
  pub places : length s.votes ≡ 7

pub node_with-is : (i : ℕ) (z : Sizes) (kept : KeptPart) → IsNode i z (node_with i z kept)
node_with-is i z kept = record { number = refl; quorums = refl; places = refl }

-- so is the same node with other entries, as many votes among them
changed : (i : ℕ) (z : Sizes) (s t : NodeState) → IsNode i z s → t.me ≡ s.me → t.quorums ≡ s.quorums → length t.votes ≡ length s.votes → IsNode i z t
changed i z s t h a b c = record { number = a ∙ h.number; quorums = b ∙ h.quorums; places = c ∙ h.places }

either : (b : Bool) (i : ℕ) (z : Sizes) (s t : NodeState) → IsNode i z s → t.me ≡ s.me → t.quorums ≡ s.quorums → length t.votes ≡ length s.votes → IsNode i z (cond b t s)
either b i z s t h m q l = cond_both b t s (IsNode i z) (λ _. changed i z s t h m q l) (λ _. h)

after_answer-is : (i : ℕ) (z : Sizes) (s : NodeState) (answer : Option Msg) → IsNode i z s → IsNode i z (after_answer s answer)
after_answer-is i z s None h = h
after_answer-is i z s (Some m) h = changed i z s _ h refl refl refl

-- a call leaves it that node
pub after_call-is : (i : ℕ) (z : Sizes) (s : NodeState) (c : Call) → IsNode i z s → IsNode i z (after_call s c)
after_call-is i z s Offer h = changed i z s _ h refl refl refl
after_call-is i z s Start h = either (has_ballot s) i z s _ h refl refl refl
after_call-is i z s Proposal h = after_answer-is i z s (proposal s) h
after_call-is i z s (On (Prepare b)) h = either (promises s b) i z s _ h refl refl refl
after_call-is i z s (On (Propose b v)) h = either (accepts s (vote b v)) i z s _ h refl refl refl
after_call-is i z s (On (Promise a b report)) h = either (notes_promise s a b report) i z s _ h refl refl refl
after_call-is i z s (On (Accepted a b v)) h = either (notes_vote s a (vote b v)) i z s _ h refl refl (length-set s.votes a (Some (vote b v)))
after_call-is i z s Restart h = record { number = h.number; quorums = h.quorums; places = refl }
