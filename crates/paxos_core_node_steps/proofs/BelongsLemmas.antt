-- What keeps a node in its world: steps of others, and what it notes.
use Rattle.std.proofs.Common.{◌≡◌, ℕ, ◌<◌, Bool, set, Option, Some, refl, sym, ap, ◌∙◌, inl, inr}
use Rattle.paxos_core_world.specs.KeptPart.{KeptPart}
use Rattle.paxos_core_world.specs.Quorum.{Sizes}
use Rattle.paxos_core_world.specs.Step.{Label, after}
use Rattle.paxos_core_world.specs.World.{World, Has}
use Rattle.paxos_core_world.specs.declared.msg.Msg.TheVariants.{Promise, Accepted}
use Rattle.paxos_core_world.specs.declared.vote.Vote.{Vote}
use Rattle.paxos_core_node_steps.specs.Belongs.{Belongs, IsUnderWay}
use Rattle.paxos_core_node_steps.specs.NodeState.{NodeState, node_with}
use Rattle.paxos_core_node_steps.specs.Takes.{IsStepOf}
use Rattle.paxos_core_node_steps.proofs.NoteLemmas.{note_of-set, note_of-nothing}
use Rattle.paxos_core_node_steps.proofs.WorldLemmas.{grows, nodes_of_others, ProposesNot, proposed_before, proposes_not_of_others}

-- a ballot stays under way through a step that proposes nothing under it
pub under_way_after : (n : ℕ) (w : World) (l : Label) (i b : ℕ) (p : Bool) → ProposesNot b l → IsUnderWay n w i b p → IsUnderWay n (after w l) i b p
under_way_after n w l i b p k u =
    record {
      own = u.own;
      begun = (grows w l).begun b u.begun;
      unproposed = λ f v h. u.unproposed f v (proposed_before w l b v k h);
    }

-- a node belongs to the world after a step, with the kept part that stands there
pub belongs_after : (z : Sizes) (w : World) (l : Label) (s : NodeState) (k : KeptPart) → Belongs z w s → (after w l).nodes s.me ≡ k → k.started ≡ s.kept.started → ((b : ℕ) → s.ballot ≡ Some b → ProposesNot b l) → Belongs z (after w l) (record s { kept = k })
belongs_after z w l s k h e t q =
    record {
      quorums = h.quorums;
      number = h.number;
      kept = e;
      ballot = λ b i. under_way_after z.nodes w l s.me b s.proposed (q b i) (h.ballot b i);
      started = λ b i. t ∙ h.started b i;
      promises = λ b a r i j. (grows w l).sent _ (h.promises b a r i j);
      votes = λ a x i. (grows w l).sent _ (h.votes a x i);
      learned = λ v i. (grows w l).learned _ (h.learned v i);
    }

-- a step of another node leaves it there
pub belongs_after_others : (z : Sizes) (w : World) (l : Label) (s : NodeState) (j : ℕ) → Belongs z w s → IsStepOf z.nodes j l → (s.me ≡ j → ⊥) → Belongs z (after w l) s
belongs_after_others z w l s j h o d =
    belongs_after z w l s s.kept h (nodes_of_others z.nodes w l s.me j o d ∙ h.kept) refl (λ b e. proposes_not_of_others z.nodes s.me j b l o (h.ballot b e).own d)

-- a node that knows its kept part alone belongs where that stands
pub belongs_with : (z : Sizes) (w : World) (i : ℕ) (k : KeptPart) → i < z.nodes → w.nodes i ≡ k → Belongs z w (node_with i z k)
belongs_with z w i k h e =
    record {
      quorums = refl;
      number = h;
      kept = e;
      ballot = λ b q. absurd (cc);
      started = λ b q. absurd (cc);
      promises = λ b a r q p. absurd (cc);
      votes = λ a x q. absurd (note_of-nothing a x q);
      learned = λ v q. absurd (cc);
    }

-- it may note a promise that was sent for its ballot
pub belongs_promise : (z : Sizes) (w : World) (s : NodeState) (b a : ℕ) (r : Option Vote) → Belongs z w s → s.ballot ≡ Some b → Has (Promise a b r) w.sent → Belongs z w (record s { promises = set s.promises a (Some r) })
belongs_promise z w s b a r h e m =
    record {
      quorums = h.quorums;
      number = h.number;
      kept = h.kept;
      ballot = h.ballot;
      started = h.started;
      promises = λ c k q i p. elim (note_of-set s.promises a k r q p) [
        | inl o ↦ promise_at w a b k c r q o.0 o.1 (ballot_at s.ballot b c e i) m
        | inr o ↦ h.promises c k q i o
      ];
      votes = h.votes;
      learned = h.learned;
    }
  where
    ballot_at : (o : Option ℕ) (b c : ℕ) → o ≡ Some b → o ≡ Some c → b ≡ c
    ballot_at o b c e i = cc

    promise_at : (w : World) (a b k c : ℕ) (r q : Option Vote) → k ≡ a → r ≡ q → b ≡ c → Has (Promise a b r) w.sent → Has (Promise k c q) w.sent
    promise_at w a b k c r q ka rq bc m = rw (ka, ← rq, ← bc) m

-- it may note a vote that was sent, and hold what it learned
pub belongs_vote : (z : Sizes) (w : World) (s : NodeState) (a : ℕ) (x : Vote) (o : Option ℕ) → Belongs z w s → Has (Accepted a x.ballot x.value) w.sent → ((v : ℕ) → o ≡ Some v → Has (s.me, v) w.learned) → Belongs z w (record s { votes = set s.votes a (Some x); learned = o })
belongs_vote z w s a x o h m l =
    record {
      quorums = h.quorums;
      number = h.number;
      kept = h.kept;
      ballot = h.ballot;
      started = h.started;
      promises = h.promises;
      votes = λ k y p. elim (note_of-set s.votes a k x y p) [
        | inl o ↦ vote_at w a k x y o.0 o.1 m
        | inr o ↦ h.votes k y o
      ];
      learned = l;
    }
  where
    vote_at : (w : World) (a k : ℕ) (x y : Vote) → k ≡ a → x ≡ y → Has (Accepted a x.ballot x.value) w.sent → Has (Accepted k y.ballot y.value) w.sent
    vote_at w a k x y e q m = rw (e, ← q) m

-- its kept part may be told otherwise
pub belongs_kept : (z : Sizes) (w : World) (s : NodeState) (k : KeptPart) → Belongs z w s → s.kept ≡ k → Belongs z w (record s { kept = k })
belongs_kept z w s k h e =
    record {
      quorums = h.quorums;
      number = h.number;
      kept = h.kept ∙ e;
      ballot = h.ballot;
      started = λ b q. ap (λ (x : KeptPart). x.started) (sym e) ∙ h.started b q;
      promises = h.promises;
      votes = h.votes;
      learned = h.learned;
    }
