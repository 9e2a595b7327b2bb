-- Facts about a world after a step: what only grows, whose kept part stays, and what is not proposed.
use Rattle.std.proofs.Common.{◌≡◌, ℕ, eqb, List, [], ◌∷◌, refl, sym, ◌∙◌, inl, inr}
use Rattle.std.proofs.lemmas.Bool.{eq-eqb, ne_eqb, cond-true, cond-false}
use Rattle.paxos_core_world.specs.Ballot.{Owns}
use Rattle.paxos_core_world.specs.KeptPart.{KeptPart}
use Rattle.paxos_core_world.specs.Run.{reached}
use Rattle.paxos_core_world.specs.Step.{Label, Offers, Starts, Promises, Proposes, Accepts, Learns, Restarts, after}
use Rattle.paxos_core_world.specs.World.{World, Has, put}
use Rattle.paxos_core_world.specs.declared.msg.Msg.{Msg}
use Rattle.paxos_core_world.specs.declared.msg.Msg.TheVariants.{Propose}
use Rattle.paxos_core_node_steps.specs.Takes.{IsStepOf}

-- messages, begun ballots and learned values of w are also those of v
pub record Grows (w v : World) : Type 0 where
  pub sent : (m : Msg) → Has m w.sent → Has m v.sent
  pub begun : (b : ℕ) → Has b w.begun → Has b v.begun
  pub learned : (p : ℕ × ℕ) → Has p w.learned → Has p v.learned

-- a step takes nothing back
pub grows : (w : World) (l : Label) → Grows w (after w l)
grows w (Offers i) = record { sent = λ m h. h; begun = λ b h. h; learned = λ p h. h }
grows w (Starts i b) = record { sent = λ m h. inr h; begun = λ b h. inr h; learned = λ p h. h }
grows w (Promises a b) = record { sent = λ m h. inr h; begun = λ b h. h; learned = λ p h. h }
grows w (Proposes b v) = record { sent = λ m h. inr h; begun = λ b h. h; learned = λ p h. h }
grows w (Accepts a b v) = record { sent = λ m h. inr h; begun = λ b h. h; learned = λ p h. h }
grows w (Learns i v) = record { sent = λ m h. h; begun = λ b h. h; learned = λ p h. inr h }
grows w (Restarts i) = record { sent = λ m h. h; begun = λ b h. h; learned = λ p h. h }

-- nor do several
pub grows_by : (w : World) (ls : List Label) → Grows w (reached w ls)
grows_by w [] = record { sent = λ m h. h; begun = λ b h. h; learned = λ p h. h }
grows_by w (l ∷ ls) =
    let one = grows (reached w ls) l in
    let all = grows_by w ls in
    record {
      sent = λ m h. one.sent m (all.sent m h);
      begun = λ b h. one.begun b (all.begun b h);
      learned = λ p h. one.learned p (all.learned p h);
    }

-- the kept part that is put at i stands there
pub put-same : (nodes : ℕ → KeptPart) (i : ℕ) (k : KeptPart) → put nodes i k i ≡ k
put-same nodes i k = cond-true (eqb i i) k (nodes i) (eq-eqb i i refl)

-- elsewhere nothing changes
pub put-other : (nodes : ℕ → KeptPart) (i j : ℕ) (k : KeptPart) → (j ≡ i → ⊥) → put nodes i k j ≡ nodes j
put-other nodes i j k h = cond-false (eqb j i) k (nodes j) (ne_eqb j i h)

-- a step of node j leaves node i's kept part
pub nodes_of_others : (n : ℕ) (w : World) (l : Label) (i j : ℕ) → IsStepOf n j l → (i ≡ j → ⊥) → (after w l).nodes i ≡ w.nodes i
nodes_of_others n w (Offers k) i j e h = put-other w.nodes k i _ (λ p. h (p ∙ e))
nodes_of_others n w (Starts k b) i j e h = put-other w.nodes k i _ (λ p. h (p ∙ e))
nodes_of_others n w (Promises k b) i j e h = put-other w.nodes k i _ (λ p. h (p ∙ e))
nodes_of_others n w (Proposes b v) i j e h = refl
nodes_of_others n w (Accepts k b v) i j e h = put-other w.nodes k i _ (λ p. h (p ∙ e))
nodes_of_others n w (Learns k v) i j e h = refl
nodes_of_others n w (Restarts k) i j e h = refl

-- the step proposes nothing under ballot b
abbrev pub ProposesNot : ℕ → Label → Type 0
ProposesNot b (Offers i) = Unit {0}
ProposesNot b (Starts i c) = Unit {0}
ProposesNot b (Promises a c) = Unit {0}
ProposesNot b (Proposes c v) = b ≡ c → ⊥
ProposesNot b (Accepts a c v) = Unit {0}
ProposesNot b (Learns i v) = Unit {0}
ProposesNot b (Restarts i) = Unit {0}

-- then what is proposed under b was proposed before
pub proposed_before : (w : World) (l : Label) (b v : ℕ) → ProposesNot b l → Has (Propose b v) (after w l).sent → Has (Propose b v) w.sent
proposed_before w (Offers i) b v k h = h
proposed_before w (Starts i c) b v k h = elim h [ inl e ↦ absurd (cc) | inr e ↦ e ]
proposed_before w (Promises a c) b v k h = elim h [ inl e ↦ absurd (cc) | inr e ↦ e ]
proposed_before w (Proposes c u) b v k h = elim h [ inl e ↦ absurd (k (cc)) | inr e ↦ e ]
proposed_before w (Accepts a c u) b v k h = elim h [ inl e ↦ absurd (cc) | inr e ↦ e ]
proposed_before w (Learns i u) b v k h = h
proposed_before w (Restarts i) b v k h = h

-- a step of node j proposes nothing under node i's own ballots
pub proposes_not_of_others : (n i j b : ℕ) (l : Label) → IsStepOf n j l → Owns n i b → (i ≡ j → ⊥) → ProposesNot b l
proposes_not_of_others n i j b (Offers k) e o h = tt
proposes_not_of_others n i j b (Starts k c) e o h = tt
proposes_not_of_others n i j b (Promises a c) e o h = tt
proposes_not_of_others n i j b (Proposes c v) e o h = λ p. h (sym o.turn ∙ rw p e.turn)
proposes_not_of_others n i j b (Accepts a c v) e o h = tt
proposes_not_of_others n i j b (Learns k v) e o h = tt
proposes_not_of_others n i j b (Restarts k) e o h = tt
