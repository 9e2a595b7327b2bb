-- A node has heard a word once it heard it, and has heard it still when it hears another node's, or does what leaves its notes.
use Rattle.std.proofs.Common.{◌≡◌, ◌≢◌, ℕ, ◌+◌, ◌<◌, ◌⊎◌, Bool, true, false, cond, eqb, ltb, ◌&&◌, List, set, set-set, get_or-set_other, Option, Some, None, IsSome, refl, sym, ap, ◌∙◌, subst, inl, inr, arith}
use Rattle.std.proofs.lemmas.Bool.{cases_eq, cases_lt, cond_both, eqb-true}
use Rattle.std.proofs.lemmas.List.{set_comm}
use Rattle.paxos_core_world.specs.Quorum.{is_accept_quorum, IsAcceptQuorum}
use Rattle.paxos_core_world.specs.declared.vote.Vote.{Vote}
use Rattle.paxos_core_world.proofs.Quorums.{accept_quorum_grows}
use Rattle.rooms_seat_state.specs.Acceptor.{accepts, after_prepare, after_propose, is_vote, promises}
use Rattle.rooms_words.specs.declared.acceptor.AcceptorWord.{AcceptorWord}
use Rattle.rooms_seat_state.specs.Learner.{after_promise, after_vote, is_at_most, is_report, is_under_way, learned_with, notes_promise, notes_vote, voted}
use Rattle.rooms_seat_state.specs.NodeState.{NodeState, offered}
use Rattle.rooms_seat_state.specs.Notes.{note_of, has_voted}
use Rattle.rooms_seat_state.specs.Proposer.{after_answer, after_proposal, next_proposal, propose_message}
use Rattle.rooms_words.proofs.LearnsLemmas.{learned_again, voted_before}
use Rattle.rooms_words.specs.Heard.{after_hearing, after_shown_vote}
use Rattle.rooms_meeting.specs.Seen.{heard_with, IsHeard}

-- to hear such a word changes nothing
pub hears_again : (s : NodeState) (j : ℕ) (x : AcceptorWord) → IsHeard s j x → after_hearing s j x.promised x.accepted ≡ s
hears_again s j x h = ap (λ (t : NodeState). after_shown_vote t j x.accepted) h.promise ∙ h.vote

-- ---- what noting rests on

-- the node with this promise noted
abbrev promised : NodeState → ℕ → Option Vote → NodeState
promised s j report = record s { promises = set s.promises j (Some report) }

-- the votes of the ballot, once that vote is noted, are an accept quorum
abbrev is_quorum : NodeState → ℕ → Vote → Bool
is_quorum s j x = is_accept_quorum s.quorums (has_voted (set s.votes j (Some x)) x.ballot)

same_promise : (s u : NodeState) (j p : ℕ) (report : Option Vote) → u.quorums ≡ s.quorums → u.ballot ≡ s.ballot → notes_promise u j p report ≡ notes_promise s j p report
same_promise s u j p report eq eb = λ i. ltb 0 p && (ltb j (eq i).nodes && (is_report (eq i).nodes p report && is_under_way (eb i) p))

-- a promise that is noted is noted still, where its place is as it was
promise_still : (s u : NodeState) (j p : ℕ) (report : Option Vote) → u.quorums ≡ s.quorums → u.ballot ≡ s.ballot
    → (set s.promises j (Some report) ≡ s.promises → set u.promises j (Some report) ≡ u.promises)
    → after_promise s j p report ≡ s → after_promise u j p report ≡ u
promise_still s u j p report eq eb place h = by_case (notes_promise s j p report) refl
  where
    by_case : (t : Bool) → notes_promise s j p report ≡ t → after_promise u j p report ≡ u
    by_case true e =
        let is : promised s j report ≡ s = sym (ap (λ (b : Bool). cond b (promised s j report) s) e) ∙ h in
        cond_both (notes_promise u j p report) (promised u j report) u (λ (t : NodeState). t ≡ u)
        (λ _. ap (λ ps. record u { promises = ps }) (place (ap (λ (t : NodeState). t.promises) is))) (λ _. refl)
    by_case false e = ap (λ (b : Bool). cond b (promised u j report) u) (same_promise s u j p report eq eb ∙ e)

-- a vote that is noted is noted still, where its place is as it was, and it makes no quorum that is not learned
vote_still : (s u : NodeState) (j : ℕ) (o : Option Vote) → u.quorums ≡ s.quorums → note_of u.votes j ≡ note_of s.votes j
    → ((x : Vote) → set s.votes j (Some x) ≡ s.votes → set u.votes j (Some x) ≡ u.votes)
    → ((x : Vote) → set s.votes j (Some x) ≡ s.votes → learned_with s.learned (is_quorum s j x) x.value ≡ s.learned → learned_with u.learned (is_quorum u j x) x.value ≡ u.learned)
    → after_shown_vote s j o ≡ s → after_shown_vote u j o ≡ u
vote_still s u j None eq en place learns h = refl
vote_still s u j (Some x) eq en place learns h = by_case (notes_vote s j x) refl
  where
    same : notes_vote u j x ≡ notes_vote s j x
    same = λ i. ltb j (eq i).nodes && (is_vote (eq i).nodes x && is_at_most (en i) x.ballot)

    by_case : (t : Bool) → notes_vote s j x ≡ t → after_vote u j x ≡ u
    by_case true e =
        let is : voted s j x ≡ s = sym (ap (λ (b : Bool). cond b (voted s j x) s) e) ∙ h in
        let votes : set s.votes j (Some x) ≡ s.votes = ap (λ (t : NodeState). t.votes) is in
        let ev = place x votes in
        let el = learns x votes (ap (λ (t : NodeState). t.learned) is) in
        cond_both (notes_vote u j x) (voted u j x) u (λ (t : NodeState). t ≡ u) (λ _. λ i. record u { votes = ev i; learned = el i }) (λ _. refl)
    by_case false e = ap (λ (b : Bool). cond b (voted u j x) u) (same ∙ e)

-- ---- what leaves a node's notes

-- u has noted and learned what s has, for the same ballot
pub record SameNotes (s u : NodeState) : Type 0 where
  pub quorums : u.quorums ≡ s.quorums
  pub ballot : u.ballot ≡ s.ballot
  pub promises : u.promises ≡ s.promises
  pub votes : u.votes ≡ s.votes
  pub learned : u.learned ≡ s.learned

pub heard_still : (s u : NodeState) → SameNotes s u → (j : ℕ) (x : AcceptorWord) → IsHeard s j x → IsHeard u j x
heard_still s u same j x h =
    record {
      promise = promise_still s u j x.promised x.accepted same.quorums same.ballot
          (λ e. subst (λ (ps : List (Option (Option Vote))). set ps j (Some x.accepted) ≡ ps) (sym same.promises) e) h.promise;
      vote = vote_still s u j x.accepted same.quorums (ap (λ (vs : List (Option Vote)). note_of vs j) same.votes)
          (λ y e. subst (λ (vs : List (Option Vote)). set vs j (Some y) ≡ vs) (sym same.votes) e)
          (λ y _ e. (λ i. learned_with (same.learned i) (is_accept_quorum (same.quorums i) (has_voted (set (same.votes i) j (Some y)) y.ballot)) y.value) ∙ (e ∙ sym same.learned))
          h.vote;
    }

same_if : (t : Bool) (s u : NodeState) → SameNotes s u → SameNotes s (cond t u s)
same_if true s u h = h
same_if false s u h = record { quorums = refl; ballot = refl; promises = refl; votes = refl; learned = refl }

-- to promise, to vote, to propose and to offer
pub same_promised : (s u : NodeState) (b : ℕ) → u ≡ after_prepare s b → SameNotes s u
same_promised s u b e =
    subst (λ (t : NodeState). SameNotes s t) (sym e) (same_if (promises s b) s _ record { quorums = refl; ballot = refl; promises = refl; votes = refl; learned = refl })

pub same_voted : (s u : NodeState) (x : Vote) → u ≡ after_propose s x → SameNotes s u
same_voted s u x e =
    subst (λ (t : NodeState). SameNotes s t) (sym e) (same_if (accepts s x) s _ record { quorums = refl; ballot = refl; promises = refl; votes = refl; learned = refl })

same_answer : (s : NodeState) (o : Option (ℕ × ℕ)) → SameNotes s (after_answer s (propose_message o))
same_answer s None = record { quorums = refl; ballot = refl; promises = refl; votes = refl; learned = refl }
same_answer s (Some p) = record { quorums = refl; ballot = refl; promises = refl; votes = refl; learned = refl }

pub same_proposed : (s u : NodeState) → u ≡ after_proposal s → SameNotes s u
same_proposed s u e = subst (λ (t : NodeState). SameNotes s t) (sym e) (same_answer s (next_proposal s))

pub same_offered : (s : NodeState) → SameNotes s (offered s)
same_offered s = record { quorums = refl; ballot = refl; promises = refl; votes = refl; learned = refl }

-- ---- another node's word

-- a place that is noted stays so where another is set
set_still : {T : Type 0} (xs : List T) (j k : ℕ) (x y : T) → j ≢ k → set xs j x ≡ xs → set (set xs k y) j x ≡ set xs k y
set_still xs j k x y d e = set_comm xs k j y x (λ same. d (sym same)) ∙ ap (λ ys. set ys k y) e

promised_other : (s : NodeState) (j k : ℕ) (p : ℕ) (report other : Option Vote) → j ≢ k → after_promise s j p report ≡ s → after_promise (promised s k other) j p report ≡ promised s k other
promised_other s j k p report other d h =
    promise_still s (promised s k other) j p report refl refl (λ e. set_still s.promises j k (Some report) (Some other) d e) h

some_with : (o : Option ℕ) (q : Bool) (v : ℕ) → IsSome o → IsSome (learned_with o q v)
some_with (Some u) q v h = refl
some_with None q v h = absurd (cc)

some_now : (o : Option ℕ) (q : Bool) (v : ℕ) → q ≡ true → IsSome (learned_with o q v)
some_now (Some u) q v h = refl
some_now None true v h = refl
some_now None false v h = absurd (cc)

-- where a quorum changes nothing, a value was learned
learned_there : (o : Option ℕ) (q : Bool) (v : ℕ) → learned_with o q v ≡ o → q ≡ true → IsSome o
learned_there (Some u) q v e h = refl
learned_there None true v e h = absurd (let bad : Some v ≡ None = e in cc)
learned_there None false v e h = absurd (cc)

-- a quorum of one vote's ballot that stands once another is noted is learned then
quorum_other : (s : NodeState) (k : ℕ) (x y : Vote) → (IsAcceptQuorum s.quorums (has_voted s.votes x.ballot) → IsSome s.learned)
    → IsAcceptQuorum s.quorums (has_voted (set s.votes k (Some y)) x.ballot) → IsSome (voted s k y).learned
quorum_other s k x y before q = elim (cases_eq y.ballot x.ballot) [
  | inl same ↦ some_now s.learned (is_quorum s k y) y.value (subst (λ (b : ℕ). IsAcceptQuorum s.quorums (has_voted (set s.votes k (Some y)) b)) (sym same) q)
  | inr other ↦ some_with s.learned (is_quorum s k y) y.value
      (before (accept_quorum_grows s.quorums (has_voted (set s.votes k (Some y)) x.ballot) (has_voted s.votes x.ballot) (λ i _. voted_before s.votes k y x.ballot other i) q))
]

voted_other : (s : NodeState) (j k : ℕ) (o : Option Vote) (y : Vote) → j ≢ k → after_shown_vote s j o ≡ s → after_shown_vote (voted s k y) j o ≡ voted s k y
voted_other s j k o y d h =
    vote_still s (voted s k y) j o refl (get_or-set_other s.votes k j (Some y) None d)
    (λ x e. set_still s.votes j k (Some x) (Some y) d e)
    (λ x e l. learned_again (voted s k y).learned (is_quorum (voted s k y) j x) x.value (λ q.
    quorum_other s k x y
    (λ r. learned_there s.learned (is_quorum s j x) x.value l (subst (λ (vs : List (Option Vote)). IsAcceptQuorum s.quorums (has_voted vs x.ballot)) (sym e) r))
    (subst (λ (vs : List (Option Vote)). IsAcceptQuorum s.quorums (has_voted vs x.ballot)) (set_still s.votes j k (Some x) (Some y) d e) q)))
    h

-- what is so of a node, and of it once a vote is noted, is so of it once a vote was shown
shown_either : (P : NodeState → Type 0) (s : NodeState) (k : ℕ) (o : Option Vote) → P s → ((y : Vote) → P (voted s k y)) → P (after_shown_vote s k o)
shown_either P s k None h v = h
shown_either P s k (Some y) h v = cond_both (notes_vote s k y) (voted s k y) s P (λ _. v y) (λ _. h)

-- what it heard of a node it has heard still once it hears another's word
pub heard_other : (s : NodeState) (j k : ℕ) (x : AcceptorWord) (p : ℕ) (o : Option Vote) → j ≢ k → IsHeard s j x → IsHeard (after_hearing s k p o) j x
heard_other s j k x p o d h =
    let mid : IsHeard (after_promise s k p o) j x =
    cond_both (notes_promise s k p o) (promised s k o) s (λ (t : NodeState). IsHeard t j x)
    (λ _. record {
      promise = promised_other s j k x.promised x.accepted o d h.promise;
      vote = vote_still s (promised s k o) j x.accepted refl refl (λ y e. e) (λ y _ e. e) h.vote;
    }) (λ _. h) in
    shown_either (λ (t : NodeState). IsHeard t j x) (after_promise s k p o) k o mid
    (λ y. record {
      promise = promise_still (after_promise s k p o) (voted (after_promise s k p o) k y) j x.promised x.accepted refl refl (λ e. e) mid.promise;
      vote = voted_other (after_promise s k p o) j k x.accepted y d mid.vote;
    })

-- ---- the same word

promised_twice : (s : NodeState) (j p : ℕ) (report : Option Vote) → after_promise (after_promise s j p report) j p report ≡ after_promise s j p report
promised_twice s j p report = by_case (notes_promise s j p report) refl
  where
    by_case : (t : Bool) → notes_promise s j p report ≡ t → after_promise (after_promise s j p report) j p report ≡ after_promise s j p report
    by_case true e =
        let is : after_promise s j p report ≡ promised s j report = ap (λ (b : Bool). cond b (promised s j report) s) e in
        subst (λ (u : NodeState). after_promise u j p report ≡ u) (sym is)
        (cond_both (notes_promise (promised s j report) j p report) (promised (promised s j report) j report) (promised s j report) (λ (t : NodeState). t ≡ promised s j report)
        (λ _. ap (λ ps. record s { promises = ps }) (set-set s.promises j (Some report) (Some report))) (λ _. refl))
    by_case false e =
        let is : after_promise s j p report ≡ s = ap (λ (b : Bool). cond b (promised s j report) s) e in
        subst (λ (u : NodeState). after_promise u j p report ≡ u) (sym is) is

learned_twice : (o : Option ℕ) (q : Bool) (v : ℕ) → learned_with (learned_with o q v) q v ≡ learned_with o q v
learned_twice (Some u) q v = refl
learned_twice None true v = refl
learned_twice None false v = refl

voted_twice : (s : NodeState) (j : ℕ) (x : Vote) → voted (voted s j x) j x ≡ voted s j x
voted_twice s j x =
    let same : set (set s.votes j (Some x)) j (Some x) ≡ set s.votes j (Some x) = set-set s.votes j (Some x) (Some x) in
    λ i. record s {
      votes = same i;
      learned = ((λ k. learned_with (learned_with s.learned (is_quorum s j x) x.value) (is_accept_quorum s.quorums (has_voted (same k) x.ballot)) x.value) ∙ learned_twice s.learned (is_quorum s j x) x.value) i;
    }

shown_twice : (s : NodeState) (j : ℕ) (o : Option Vote) → after_shown_vote (after_shown_vote s j o) j o ≡ after_shown_vote s j o
shown_twice s j None = refl
shown_twice s j (Some x) = by_case (notes_vote s j x) refl
  where
    by_case : (t : Bool) → notes_vote s j x ≡ t → after_vote (after_vote s j x) j x ≡ after_vote s j x
    by_case true e =
        let is : after_vote s j x ≡ voted s j x = ap (λ (b : Bool). cond b (voted s j x) s) e in
        subst (λ (u : NodeState). after_vote u j x ≡ u) (sym is)
        (cond_both (notes_vote (voted s j x) j x) (voted (voted s j x) j x) (voted s j x) (λ (t : NodeState). t ≡ voted s j x) (λ _. voted_twice s j x) (λ _. refl))
    by_case false e =
        let is : after_vote s j x ≡ s = ap (λ (b : Bool). cond b (voted s j x) s) e in
        subst (λ (u : NodeState). after_vote u j x ≡ u) (sym is) is

-- once it heard a word it has heard it
pub heard_now : (s : NodeState) (j : ℕ) (x : AcceptorWord) → IsHeard (after_hearing s j x.promised x.accepted) j x
heard_now s j x =
    let mid : NodeState = after_promise s j x.promised x.accepted in
    record {
      promise = shown_either (λ (t : NodeState). after_promise t j x.promised x.accepted ≡ t) mid j x.accepted (promised_twice s j x.promised x.accepted)
          (λ y. promise_still mid (voted mid j y) j x.promised x.accepted refl refl (λ e. e) (promised_twice s j x.promised x.accepted));
      vote = shown_twice mid j x.accepted;
    }

-- ---- the words of several nodes

with_if : (t : Bool) (heard j k : ℕ) → eqb heard j ≡ t → k < cond t (j + 1) heard → (k ≡ j) ⊎ (k < heard)
with_if true heard j k e lt = let same : heard ≡ j = eqb-true heard j e in elim (cases_lt k j) [ inl low ↦ inr (omega arith) | inr high ↦ inl (omega arith) ]
with_if false heard j k e lt = inr lt

-- what is heard once node j's word is: that word, or what was heard before
pub heard_before : (heard j k : ℕ) → k < heard_with heard j → (k ≡ j) ⊎ (k < heard)
heard_before heard j k lt = with_if (eqb heard j) heard j k refl lt
