-- A node learns at once, and a vote that is noted again changes nothing.
use Rattle.std.proofs.Common.{◌≡◌, ℕ, zero, suc, Bool, true, false, List, [], ◌∷◌, set, Option, Some, None, IsTrue, IsSome, refl, sym, ap, ◌∙◌, subst, inl, inr}
use Rattle.std.proofs.lemmas.Bool.{eq-eqb, cases_eq, cond_both}
use Rattle.paxos_core_world.specs.Quorum.{Sizes, AreQuorums, is_accept_quorum, IsAcceptQuorum}
use Rattle.paxos_core_world.specs.declared.vote.Vote.{Vote}
use Rattle.paxos_core_world.proofs.Quorums.{member_of, accept_quorum_grows}
use Rattle.paxos_core_late_offers.specs.Learner.{notes_vote, learned_with, voted, after_vote}
use Rattle.paxos_core_late_offers.specs.NodeState.{NodeState, nothing_noted}
use Rattle.paxos_core_late_offers.specs.Notes.{note_of, is_under, has_voted}
use Rattle.paxos_core_late_offers.proofs.NoteLemmas.{note_of-set, note_of-nothing, voted_vote}
use Rattle.paxos_core.specs.LearnsAtOnce.{LearnsAtOnce}

-- ---- where nothing is noted

no_votes : (b a : ℕ) → IsTrue (has_voted nothing_noted b a) → ⊥
no_votes b a h = let y = voted_vote nothing_noted b a h in note_of-nothing a y.0 y.1

count_none : (z : Sizes) → AreQuorums z → (q : ℕ → Bool) → ((a : ℕ) → IsTrue (q a) → ⊥) → IsAcceptQuorum z q → ⊥
count_none z are q h k = let one = member_of z are q k in h one.node one.member

-- a node that has noted no vote has nothing to learn
pub nothing_to_learn : (z : Sizes) → AreQuorums z → (learned : Option ℕ) → LearnsAtOnce z nothing_noted learned
nothing_to_learn z are learned b q = absurd (count_none z are (has_voted nothing_noted b) (no_votes b) q)

-- ---- one more vote

under_vote : (o : Option Vote) (b : ℕ) (y : Vote) → o ≡ Some y → y.ballot ≡ b → is_under b o ≡ true
under_vote None b y e h = absurd (cc)
under_vote (Some z) b y e h = let same : z ≡ y = cc in eq-eqb z.ballot b (ap (λ (u : Vote). u.ballot) same ∙ h)

-- who has voted under another ballot had voted under it before
pub voted_before : (votes : List (Option Vote)) (a : ℕ) (x : Vote) (b : ℕ) → (x.ballot ≡ b → ⊥) → (k : ℕ) → IsTrue (has_voted (set votes a (Some x)) b k) → IsTrue (has_voted votes b k)
voted_before votes a x b other k h =
    let y = voted_vote (set votes a (Some x)) b k h in
    elim (note_of-set votes a k x y.0 y.1) [
      | inl e ↦ absurd (other (ap (λ (z : Vote). z.ballot) e.1 ∙ y.2))
      | inr e ↦ under_vote (note_of votes k) b y.0 e y.2
    ]

-- once a value is learned where the vote makes a quorum of its ballot, none of another ballot is new
pub learns_on : (z : Sizes) (votes : List (Option Vote)) (old new : Option ℕ) (a : ℕ) (x : Vote) → LearnsAtOnce z votes old → (IsSome old → IsSome new)
    → (IsAcceptQuorum z (has_voted (set votes a (Some x)) x.ballot) → IsSome new) → LearnsAtOnce z (set votes a (Some x)) new
learns_on z votes old new a x h stays now b q = elim (cases_eq x.ballot b) [
  | inl same ↦ now (subst (λ c. IsAcceptQuorum z (has_voted (set votes a (Some x)) c)) (sym same) q)
  | inr other ↦ stays (h b (accept_quorum_grows z (has_voted (set votes a (Some x)) b) (has_voted votes b) (λ k _. voted_before votes a x b other k) q))
]

-- a vote that makes no quorum leaves nothing to learn
pub learns_no_more : (z : Sizes) (votes : List (Option Vote)) (learned : Option ℕ) (a : ℕ) (x : Vote) → LearnsAtOnce z votes learned
    → is_accept_quorum z (has_voted (set votes a (Some x)) x.ballot) ≡ false → LearnsAtOnce z (set votes a (Some x)) learned
learns_no_more z votes learned a x h short = learns_on z votes learned learned a x h (λ k. k) (λ q. absurd (cc))

-- ---- the same vote again

set_again : (votes : List (Option Vote)) (a : ℕ) (x : Vote) → note_of votes a ≡ Some x → set votes a (Some x) ≡ votes
set_again [] a x h = absurd (cc)
set_again (y ∷ ys) zero x h = ap (λ z. z ∷ ys) (sym h)
set_again (y ∷ ys) (suc a) x h = ap (λ zs. y ∷ zs) (set_again ys a x h)

-- what is learned stays, unless the vote is one of a quorum and nothing is learned
pub learned_again : (learned : Option ℕ) (q : Bool) (v : ℕ) → (q ≡ true → IsSome learned) → learned_with learned q v ≡ learned
learned_again (Some u) q v h = refl
learned_again None true v h = absurd (let bad = h refl in cc)
learned_again None false v h = refl

voted_again : (s : NodeState) (a : ℕ) (x : Vote) → LearnsAtOnce s.quorums s.votes s.learned → note_of s.votes a ≡ Some x → voted s a x ≡ s
voted_again s a x h e =
    subst (λ (votes : List (Option Vote)). record s { votes = votes; learned = learned_with s.learned (is_accept_quorum s.quorums (has_voted votes x.ballot)) x.value } ≡ s) (sym (set_again s.votes a x e))
    (ap (λ (learned : Option ℕ). record s { learned = learned }) (learned_again s.learned (is_accept_quorum s.quorums (has_voted s.votes x.ballot)) x.value (h x.ballot)))

-- a vote that is noted is noted again
pub noted_again : (s : NodeState) (a : ℕ) (x : Vote) → LearnsAtOnce s.quorums s.votes s.learned → note_of s.votes a ≡ Some x → after_vote s a x ≡ s
noted_again s a x h e = cond_both (notes_vote s a x) (voted s a x) s (λ t. t ≡ s) (λ _. voted_again s a x h e) (λ _. refl)
