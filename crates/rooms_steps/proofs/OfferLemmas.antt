-- A node held as if it had made its offer does what the node does.
use Rattle.std.proofs.Common.{◌≡◌, ℕ, Bool, true, false, cond, Option, Some, None, refl, sym, ap, ◌∙◌}
use Rattle.paxos_core_world.specs.KeptPart.{vote}
use Rattle.paxos_core_world.specs.declared.msg.Msg.{Msg}
use Rattle.paxos_core_world.specs.declared.msg.Msg.TheVariants.{Prepare, Promise, Propose, Accepted}
use Rattle.paxos_core_world.specs.declared.vote.Vote.{Vote}
use Rattle.rooms_words.specs.Acceptor.{promises, accepts}
use Rattle.rooms_words.specs.Learner.{notes_promise, notes_vote}
use Rattle.rooms_words.specs.Message.{after_message}
use Rattle.rooms_words.specs.NodeState.{NodeState, offered}
use Rattle.rooms_words.specs.Notes.{highest_below}
use Rattle.rooms_words.specs.Proposer.{choice, may_propose, proposal_under, propose_message, next_proposal, after_answer, after_proposal}
use Rattle.rooms_words.specs.Heard.{after_shown_vote, after_hearing}

offered_if : (t : Bool) (s u : NodeState) → cond t (offered u) (offered s) ≡ offered (cond t u s)
offered_if true s u = refl
offered_if false s u = refl

pub message_offered : (s : NodeState) (m : Msg) → after_message (offered s) m ≡ offered (after_message s m)
message_offered s (Prepare b) = offered_if (promises s b) s _
message_offered s (Propose b v) = offered_if (accepts s (vote b v)) s _
message_offered s (Promise a b report) = offered_if (notes_promise s a b report) s _
message_offered s (Accepted a b v) = offered_if (notes_vote s a (vote b v)) s _

shown_offered : (s : NodeState) (j : ℕ) (x : Option Vote) → after_shown_vote (offered s) j x ≡ offered (after_shown_vote s j x)
shown_offered s j None = refl
shown_offered s j (Some x) = message_offered s (Accepted j x.ballot x.value)

pub hearing_offered : (s : NodeState) (j p : ℕ) (x : Option Vote) → after_hearing (offered s) j p x ≡ offered (after_hearing s j p x)
hearing_offered s j p x =
    ap (λ (t : NodeState). after_shown_vote t j x) (message_offered s (Promise j p x)) ∙ shown_offered (after_message s (Promise j p x)) j x

with_own : (o : Option ℕ) (t : Bool) (h : Option Vote) (f : Bool) (me : ℕ) (p : ℕ × ℕ) → proposal_under o t (choice h f me) ≡ Some p → proposal_under o t (choice h true me) ≡ Some p
with_own o t (Some x) f me p e = e
with_own o t None true me p e = e
with_own None t None false me p e = absurd (cc)
with_own (Some b) true None false me p e = absurd (cc)
with_own (Some b) false None false me p e = absurd (cc)

-- what the node proposes, it proposes
pub proposal_offered : (s : NodeState) (p : ℕ × ℕ) → next_proposal s ≡ Some p → next_proposal (offered s) ≡ Some p
proposal_offered s p e = with_own s.ballot (may_propose s) (highest_below s.quorums.nodes s.promises) s.kept.offered s.me p e

pub proposed_offered : (s : NodeState) (p : ℕ × ℕ) → next_proposal s ≡ Some p → after_proposal (offered s) ≡ offered (after_proposal s)
proposed_offered s p e =
    ap (λ (x : Option (ℕ × ℕ)). after_answer (offered s) (propose_message x)) (proposal_offered s p e)
    ∙ sym (ap (λ (x : Option (ℕ × ℕ)). offered (after_answer s (propose_message x))) e)
