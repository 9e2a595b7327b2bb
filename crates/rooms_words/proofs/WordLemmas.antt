-- Which words a step changes: its own node's alone, and of those one.
use Rattle.std.proofs.Common.{◌≡◌, ◌≢◌, ℕ, ◌*◌, ◌<◌, ◌≤◌, ◌⊎◌, Bool, true, false, cond, eqb, List, [], ◌∷◌, length, get_or, set, length-set, get_or-set_same, get_or-set_other, Option, Some, refl, sym, ap, ◌∙◌, subst, inl, inr, arith}
use Rattle.std.proofs.lemmas.Bool.{eqb-true, ne_eqb, cond-false}
use native.Mathlib.Decide.{ℕ_discrete}
use Rattle.paxos_core_world.specs.Ballot.{Owns}
use Rattle.paxos_core_world.specs.KeptPart.{KeptPart}
use Rattle.paxos_core_world.specs.Quorum.{Sizes}
use Rattle.paxos_core_world.specs.Run.{IsRun, reached}
use Rattle.paxos_core_world.specs.Step.{Label, Offers, Starts, Promises, Proposes, Accepts, Learns, Restarts, after}
use Rattle.paxos_core_world.specs.World.{World, put}
use Rattle.paxos_core_world.specs.declared.msg.Msg.{Msg}
use Rattle.paxos_core_world.specs.declared.vote.Vote.{Vote}
use Rattle.paxos_core.specs.Reached.{IsReached}
use Rattle.paxos_core.specs.Takes.{IsStepOf}
use Rattle.paxos_core.proofs.WorldLemmas.{nodes_of_others, ProposesNot, proposes_not_of_others}
use Rattle.rooms_words.specs.Words.{IsProposerWord, IsAcceptorWord}
use Rattle.rooms_words.specs.Views.{AreStepsOfOthers}
use Rattle.rooms_words.specs.WordsOf.{proposed_under, proposer_at, acceptor_at, IsProposerOf, IsAcceptorOf, ShowsWorld}
use Rattle.rooms_words.proofs.RunLemmas.{reached_more, started_own}

-- ---- steps that leave all words of a kind

-- the step neither starts nor proposes
abbrev pub KeepsProposers : Label → Type 0
KeepsProposers (Offers i) = Unit {0}
KeepsProposers (Starts i b) = ⊥
KeepsProposers (Promises a b) = Unit {0}
KeepsProposers (Proposes b v) = ⊥
KeepsProposers (Accepts a b v) = Unit {0}
KeepsProposers (Learns i v) = Unit {0}
KeepsProposers (Restarts i) = Unit {0}

-- the step neither promises nor accepts
abbrev pub KeepsAcceptors : Label → Type 0
KeepsAcceptors (Offers i) = Unit {0}
KeepsAcceptors (Starts i b) = Unit {0}
KeepsAcceptors (Promises a b) = ⊥
KeepsAcceptors (Proposes b v) = Unit {0}
KeepsAcceptors (Accepts a b v) = ⊥
KeepsAcceptors (Learns i v) = Unit {0}
KeepsAcceptors (Restarts i) = Unit {0}

put_by : {A : Type 0} (f : KeptPart → A) (nodes : ℕ → KeptPart) (a i : ℕ) (k : KeptPart) (t : Bool) → eqb i a ≡ t → f k ≡ f (nodes a) → f (cond t k (nodes i)) ≡ f (nodes i)
put_by f nodes a i k true e h = h ∙ ap (λ (x : ℕ). f (nodes x)) (sym (eqb-true i a e))
put_by f nodes a i k false e h = refl

-- what does not change where it is put does not change
pub put_field : {A : Type 0} (f : KeptPart → A) (nodes : ℕ → KeptPart) (a i : ℕ) (k : KeptPart) → f k ≡ f (nodes a) → f (put nodes a k i) ≡ f (nodes i)
put_field f nodes a i k h = put_by f nodes a i k (eqb i a) refl h

started_kept : (w : World) (i number a : ℕ) (k : KeptPart) (sent : List Msg) → k.started ≡ (w.nodes a).started → IsProposerWord number (w.nodes i).started (proposed_under (w.nodes i).started sent) → IsProposerWord number (put w.nodes a k i).started (proposed_under (put w.nodes a k i).started sent)
started_kept w i number a k sent e h =
    subst (λ (c : ℕ). IsProposerWord number c (proposed_under c sent)) (sym (put_field (λ (x : KeptPart). x.started) w.nodes a i k e)) h

pub proposer_kept : (w : World) (l : Label) (i number : ℕ) → KeepsProposers l → IsProposerOf w i number → IsProposerOf (after w l) i number
proposer_kept w (Offers a) i number q h = started_kept w i number a _ w.sent refl h
proposer_kept w (Starts a b) i number q h = absurd q
proposer_kept w (Promises a b) i number q h = started_kept w i number a _ w.sent refl h
proposer_kept w (Proposes b v) i number q h = absurd q
proposer_kept w (Accepts a b v) i number q h = started_kept w i number a _ w.sent refl h
proposer_kept w (Learns a v) i number q h = h
proposer_kept w (Restarts a) i number q h = h

voted_kept : (w : World) (i number a : ℕ) (k : KeptPart) → k.promised ≡ (w.nodes a).promised → k.accepted ≡ (w.nodes a).accepted → IsAcceptorOf w i number → IsAcceptorWord number (put w.nodes a k i).promised (put w.nodes a k i).accepted
voted_kept w i number a k e f h =
    subst (λ (p : ℕ). IsAcceptorWord number p (put w.nodes a k i).accepted) (sym (put_field (λ (x : KeptPart). x.promised) w.nodes a i k e))
    (subst (λ (x : Option Vote). IsAcceptorWord number (w.nodes i).promised x) (sym (put_field (λ (x : KeptPart). x.accepted) w.nodes a i k f)) h)

pub acceptor_kept : (w : World) (l : Label) (i number : ℕ) → KeepsAcceptors l → IsAcceptorOf w i number → IsAcceptorOf (after w l) i number
acceptor_kept w (Offers a) i number q h = voted_kept w i number a _ refl refl h
acceptor_kept w (Starts a b) i number q h = voted_kept w i number a _ refl refl h
acceptor_kept w (Promises a b) i number q h = absurd q
acceptor_kept w (Proposes b v) i number q h = h
acceptor_kept w (Accepts a b v) i number q h = absurd q
acceptor_kept w (Learns a v) i number q h = h
acceptor_kept w (Restarts a) i number q h = h

-- ---- steps of others

proposed_after : (w : World) (l : Label) (b : ℕ) → ProposesNot b l → proposed_under b (after w l).sent ≡ proposed_under b w.sent
proposed_after w (Offers i) b q = refl
proposed_after w (Starts i c) b q = refl
proposed_after w (Promises a c) b q = refl
proposed_after w (Proposes c v) b q = cond-false (eqb c b) (Some v) (proposed_under b w.sent) (ne_eqb c b (λ e. q (sym e)))
proposed_after w (Accepts a c v) b q = refl
proposed_after w (Learns i v) b q = refl
proposed_after w (Restarts i) b q = refl

zero_not : (n j b : ℕ) (l : Label) → b ≡ 0 → IsStepOf n j l → ProposesNot b l
zero_not n j b (Offers i) e h = tt
zero_not n j b (Starts i c) e h = tt
zero_not n j b (Promises a c) e h = tt
zero_not n j b (Proposes c v) e h = λ p. let low : 1 ≤ c = h.first in absurd (omega arith)
zero_not n j b (Accepts a c v) e h = tt
zero_not n j b (Learns i v) e h = tt
zero_not n j b (Restarts i) e h = tt

proposer_of_other : (n : ℕ) (w : World) (l : Label) (i j number : ℕ) → ((w.nodes i).started ≡ 0) ⊎ Owns n i (w.nodes i).started → IsStepOf n j l → i ≢ j → IsProposerOf w i number → IsProposerOf (after w l) i number
proposer_of_other n w l i j number own o d h =
    let same : (after w l).nodes i ≡ w.nodes i = nodes_of_others n w l i j o d in
    let quiet : ProposesNot (w.nodes i).started l =
    elim own [ inl e ↦ zero_not n j (w.nodes i).started l e o | inr e ↦ proposes_not_of_others n i j (w.nodes i).started l o e d ] in
    subst (λ (k : KeptPart). IsProposerWord number k.started (proposed_under k.started (after w l).sent)) (sym same)
    (subst (λ (p : Option ℕ). IsProposerWord number (w.nodes i).started p) (sym (proposed_after w l (w.nodes i).started quiet)) h)

pub proposer_of_others : (q : Sizes) (w : World) (ls : List Label) (i number : ℕ) → IsReached q w → i < q.nodes → IsRun q w ls → AreStepsOfOthers q.nodes i ls → IsProposerOf w i number → IsProposerOf (reached w ls) i number
proposer_of_others q w [] i number r lt run o h = h
proposer_of_others q w (l ∷ ls) i number r lt run o h =
    let first = o.0 in
    proposer_of_other q.nodes (reached w ls) l i first.0 number (started_own q (reached w ls) i (reached_more q w ls r run.0) lt) first.1 first.2
    (proposer_of_others q w ls i number r lt run.0 o.1 h)

pub acceptor_of_others : (n : ℕ) (w : World) (ls : List Label) (i number : ℕ) → AreStepsOfOthers n i ls → IsAcceptorOf w i number → IsAcceptorOf (reached w ls) i number
acceptor_of_others n w [] i number o h = h
acceptor_of_others n w (l ∷ ls) i number o h =
    let first = o.0 in
    let same : (after (reached w ls) l).nodes i ≡ (reached w ls).nodes i = nodes_of_others n (reached w ls) l i first.0 first.1 first.2 in
    subst (λ (k : KeptPart). IsAcceptorWord number k.promised k.accepted) (sym same) (acceptor_of_others n w ls i number o.1 h)

-- ---- the table after a step

-- a look writes nothing
pub shows_read : (n : ℕ) (w x : World) (words : List ℕ) (k : ℕ) → ShowsWorld n w words
    → ((i number : ℕ) → IsProposerOf w i number → IsProposerOf x i number) → ((i number : ℕ) → IsAcceptorOf w i number → IsAcceptorOf x i number)
    → ShowsWorld n x words
shows_read n w x words k h p a =
    record { size = h.size; proposers = λ i lt. p i _ (h.proposers i lt); acceptors = λ i lt. a i _ (h.acceptors i lt) }

module _ (n : ℕ) (w x : World) (words : List ℕ) (me number : ℕ) (lt : me < n) (h : ShowsWorld n w words) where
  -- a store of node me's acceptor's word
  pub shows_acceptor : ((i number : ℕ) → IsProposerOf w i number → IsProposerOf x i number) → ((i number : ℕ) → i ≢ me → IsAcceptorOf w i number → IsAcceptorOf x i number)
      → IsAcceptorOf x me number → ShowsWorld n x (set words (acceptor_at me) number)
  shows_acceptor p a here =
      record {
        size = length-set words (acceptor_at me) number ∙ h.size;
        proposers = λ i il. subst (λ (m : ℕ). IsProposerOf x i m) (sym (get_or-set_other words (acceptor_at me) (proposer_at i) number 0 (λ e. absurd (omega arith)))) (p i _ (h.proposers i il));
        acceptors = λ i il. at i il (ℕ_discrete i me);
      }
    where
      at : (i : ℕ) → i < n → Dec (i ≡ me) → IsAcceptorOf x i (get_or (set words (acceptor_at me) number) (acceptor_at i) 0)
      at i il (yes e) =
          let size : length words ≡ 2 * n = h.size in
          let below : acceptor_at me < length words = omega arith in
          subst (λ (j : ℕ). IsAcceptorOf x j (get_or (set words (acceptor_at me) number) (acceptor_at j) 0)) (sym e)
          (subst (λ (m : ℕ). IsAcceptorOf x me m) (sym (get_or-set_same words (acceptor_at me) number 0 below)) here)
      at i il (no d) =
          subst (λ (m : ℕ). IsAcceptorOf x i m) (sym (get_or-set_other words (acceptor_at me) (acceptor_at i) number 0 (λ e. d (omega arith)))) (a i _ d (h.acceptors i il))

  -- a store of node me's proposer's word
  pub shows_proposer : ((i number : ℕ) → i < n → i ≢ me → IsProposerOf w i number → IsProposerOf x i number) → ((i number : ℕ) → IsAcceptorOf w i number → IsAcceptorOf x i number)
      → IsProposerOf x me number → ShowsWorld n x (set words (proposer_at me) number)
  shows_proposer p a here =
      record {
        size = length-set words (proposer_at me) number ∙ h.size;
        proposers = λ i il. at i il (ℕ_discrete i me);
        acceptors = λ i il. subst (λ (m : ℕ). IsAcceptorOf x i m) (sym (get_or-set_other words (proposer_at me) (acceptor_at i) number 0 (λ e. absurd (omega arith)))) (a i _ (h.acceptors i il));
      }
    where
      at : (i : ℕ) → i < n → Dec (i ≡ me) → IsProposerOf x i (get_or (set words (proposer_at me) number) (proposer_at i) 0)
      at i il (yes e) =
          let size : length words ≡ 2 * n = h.size in
          let below : proposer_at me < length words = omega arith in
          subst (λ (j : ℕ). IsProposerOf x j (get_or (set words (proposer_at me) number) (proposer_at j) 0)) (sym e)
          (subst (λ (m : ℕ). IsProposerOf x me m) (sym (get_or-set_same words (proposer_at me) number 0 below)) here)
      at i il (no d) =
          subst (λ (m : ℕ). IsProposerOf x i m) (sym (get_or-set_other words (proposer_at me) (proposer_at i) number 0 (λ e. d (omega arith)))) (p i _ il d (h.proposers i il))
