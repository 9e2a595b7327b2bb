-- A node learns exactly once the votes noted of an accept quorum have had one ballot.
use Rattle.std.proofs.Common.{◌≡◌, ℕ, ◌<◌, ◌≤◌, ◌⊎◌, Bool, true, false, cond, ◌&&◌, ltb, List, [], ◌∷◌, ◌++◌, length, Option, Some, None, IsSome, refl, sym, ap, ◌∙◌, subst, inl, inr, arith}
use Rattle.std.proofs.lemmas.Bool.{ltb-true, and_parts}
use Rattle.std.proofs.lemmas.List.{get_or-set_same}
use Rattle.paxos_core_world.specs.KeptPart.{KeptPart, vote}
use Rattle.paxos_core_world.specs.Quorum.{Sizes, AreQuorums, is_accept_quorum, IsAcceptQuorum}
use Rattle.paxos_core_world.specs.declared.msg.Msg.{Msg}
use Rattle.paxos_core_world.specs.declared.msg.Msg.TheVariants.{Prepare, Promise, Propose, Accepted}
use Rattle.paxos_core_world.specs.declared.vote.Vote.{Vote}
use Rattle.paxos_core_late_offers.specs.Acceptor.{is_vote, promises, accepts}
use Rattle.paxos_core.specs.Call.{Call, Offer, Start, Proposal, On, Restart, has_ballot, after_call, after_calls}
use Rattle.paxos_core_late_offers.specs.Learner.{is_at_most, notes_promise, notes_vote, votes_with, learned_with, voted}
use Rattle.paxos_core.specs.Quorums.{HasNoRestart, HasQuorum, WasQuorum, LearnsFromQuorum, QuorumIsLearned}
use Rattle.paxos_core_late_offers.specs.NodeState.{NodeState, node_with}
use Rattle.paxos_core_late_offers.specs.Notes.{note_of, has_voted}
use Rattle.paxos_core_late_offers.specs.Proposer.{proposal, after_answer}
use Rattle.paxos_core.proofs.CallLemmas.{IsNode, node_with-is, after_call-is}
use Rattle.paxos_core.specs.LearnsAtOnce.{LearnsAtOnce}
use Rattle.paxos_core.proofs.LearnsLemmas.{learns_on, nothing_to_learn}

-- ---- what a call changes of votes and of what is learned

-- the call is no restart and notes no vote: votes and what is learned stay
pub record KeepsVotes (s t : NodeState) : Type 0 where
  pub quorums : t.quorums ≡ s.quorums
  pub votes : t.votes ≡ s.votes
  pub learned : t.learned ≡ s.learned

-- the call noted this vote of node a
pub record Notes (s t : NodeState) (a : ℕ) (x : Vote) : Type 0 where
  pub may : notes_vote s a x ≡ true
  pub is : t ≡ voted s a x

-- either of the two
abbrev pub VotesChange : NodeState → NodeState → Type 0
VotesChange s t = KeepsVotes s t ⊎ ((a : ℕ) × (x : Vote) × Notes s t a x)

either : (b : Bool) (s t : NodeState) → t.quorums ≡ s.quorums → t.votes ≡ s.votes → t.learned ≡ s.learned → VotesChange s (cond b t s)
either true s t c v l = inl (record { quorums = c; votes = v; learned = l })
either false s t c v l = inl (record { quorums = refl; votes = refl; learned = refl })

vote_or_not : (b : Bool) (s : NodeState) (a : ℕ) (x : Vote) → notes_vote s a x ≡ b → VotesChange s (cond b (voted s a x) s)
vote_or_not true s a x e = inr (a, x, record { may = e; is = refl })
vote_or_not false s a x e = inl (record { quorums = refl; votes = refl; learned = refl })

after_answer_votes : (s : NodeState) (answer : Option Msg) → VotesChange s (after_answer s answer)
after_answer_votes s None = inl (record { quorums = refl; votes = refl; learned = refl })
after_answer_votes s (Some m) = inl (record { quorums = refl; votes = refl; learned = refl })

votes_change : (s : NodeState) (c : Call) → HasNoRestart (c ∷ []) → VotesChange s (after_call s c)
votes_change s Offer h = inl (record { quorums = refl; votes = refl; learned = refl })
votes_change s Start h = either (has_ballot s) s _ refl refl refl
votes_change s Proposal h = after_answer_votes s (proposal s)
votes_change s (On (Prepare b)) h = either (promises s b) s _ refl refl refl
votes_change s (On (Propose b v)) h = either (accepts s (vote b v)) s _ refl refl refl
votes_change s (On (Promise a b report)) h = either (notes_promise s a b report) s _ refl refl refl
votes_change s (On (Accepted a b v)) h = vote_or_not (notes_vote s a (vote b v)) s a (vote b v) refl
votes_change s Restart h = absurd h

-- ---- what was learned stays

stays_with : (o : Option ℕ) (q : Bool) (v : ℕ) → IsSome o → IsSome (learned_with o q v)
stays_with (Some u) q v h = refl
stays_with None q v h = absurd (cc)

stays : (s t : NodeState) → VotesChange s t → IsSome s.learned → IsSome t.learned
stays s t d h = elim d [
  | inl e ↦ rw e.learned h
  | inr e ↦ rw e.2.is (stays_with s.learned (is_accept_quorum s.quorums (has_voted (votes_with s e.0 e.1) e.1.ballot)) e.1.value h)
]

-- ---- what a quorum votes for is learned

-- once an accept quorum has voted under a ballot, a value is learned
abbrev HasLearned : NodeState → Type 0
HasLearned s = LearnsAtOnce s.quorums s.votes s.learned

learned_now : (o : Option ℕ) (q : Bool) (v : ℕ) → q ≡ true → IsSome (learned_with o q v)
learned_now (Some u) q v h = refl
learned_now None true v h = refl
learned_now None false v h = absurd (cc)

-- the quorum, in terms of what it was before
quorum_of : (y z : Sizes) (b : ℕ) (vs us : List (Option Vote)) → y ≡ z → vs ≡ us → IsAcceptQuorum y (has_voted vs b) → IsAcceptQuorum z (has_voted us b)
quorum_of y z b vs us e f h = rw (← e, ← f) h

learned_vote : (s : NodeState) (a : ℕ) (x : Vote) → HasLearned s → HasLearned (voted s a x)
learned_vote s a x h =
    learns_on s.quorums s.votes s.learned _ a x h (stays_with s.learned (is_accept_quorum s.quorums (has_voted (votes_with s a x) x.ballot)) x.value)
    (learned_now s.learned (is_accept_quorum s.quorums (has_voted (votes_with s a x) x.ballot)) x.value)

learned_after : (s t : NodeState) → VotesChange s t → HasLearned s → HasLearned t
learned_after s t d h = elim d [
  | inl e ↦ λ b q. rw e.learned (h b (quorum_of t.quorums s.quorums b t.votes s.votes e.quorums e.votes q))
  | inr e ↦ subst HasLearned (sym e.2.is) (learned_vote s e.0 e.1 h)
]

-- ---- over the calls since a restart

no_restart_tail : (c : Call) (cs : List Call) → HasNoRestart (c ∷ cs) → HasNoRestart cs
no_restart_tail Offer cs h = h
no_restart_tail Start cs h = h
no_restart_tail Proposal cs h = h
no_restart_tail (On m) cs h = h
no_restart_tail Restart cs h = absurd h

no_restart_head : (c : Call) (cs : List Call) → HasNoRestart (c ∷ cs) → HasNoRestart (c ∷ [])
no_restart_head Offer cs h = tt
no_restart_head Start cs h = tt
no_restart_head Proposal cs h = tt
no_restart_head (On m) cs h = tt
no_restart_head Restart cs h = h

no_restart_earlier : (later earlier : List Call) → HasNoRestart (later ++ earlier) → HasNoRestart earlier
no_restart_earlier [] earlier h = h
no_restart_earlier (c ∷ later) earlier h = no_restart_earlier later earlier (no_restart_tail c (later ++ earlier) h)

change_by : (s : NodeState) (c : Call) (cs : List Call) → HasNoRestart (c ∷ cs) → VotesChange (after_calls s cs) (after_calls s (c ∷ cs))
change_by s c cs h = votes_change (after_calls s cs) c (no_restart_head c cs h)

-- what is learned was learned before, or is learned now from a quorum
learned_cases : (o : Option ℕ) (q : Bool) (u v : ℕ) → learned_with o q u ≡ Some v → (o ≡ Some v) ⊎ ((q ≡ true) × (u ≡ v))
learned_cases (Some w) q u v h = inl h
learned_cases None true u v h = inr (refl, cc)
learned_cases None false u v h = absurd (cc)

module _ (me : ℕ) (z : Sizes) (kept : KeptPart) where
  abbrev fresh : NodeState
  fresh = node_with me z kept

  all_learned : AreQuorums z → (cs : List Call) → HasNoRestart cs → HasLearned (after_calls fresh cs)
  all_learned are [] h = nothing_to_learn z are None
  all_learned are (c ∷ cs) h = learned_after (after_calls fresh cs) (after_calls fresh (c ∷ cs)) (change_by fresh c cs h) (all_learned are cs (no_restart_tail c cs h))

  stays_learned : (later earlier : List Call) → HasNoRestart (later ++ earlier) → IsSome (after_calls fresh earlier).learned → IsSome (after_calls fresh (later ++ earlier)).learned
  stays_learned [] earlier h k = k
  stays_learned (c ∷ later) earlier h k =
      stays (after_calls fresh (later ++ earlier)) _ (change_by fresh c (later ++ earlier) h) (stays_learned later earlier (no_restart_tail c (later ++ earlier) h) k)

  is_node : (cs : List Call) → IsNode me z (after_calls fresh cs)
  is_node [] = node_with-is me z kept
  is_node (c ∷ cs) = after_call-is me z (after_calls fresh cs) c (is_node cs)

  later_than : (c : Call) (cs : List Call) (v : ℕ) → WasQuorum fresh cs v → WasQuorum fresh (c ∷ cs) v
  later_than c cs v h =
      record {
        later = c ∷ h.later;
        earlier = h.earlier;
        split = ap (λ xs. c ∷ xs) h.split;
        ballot = h.ballot;
        quorum = h.quorum;
        node = h.node;
        noted = h.noted;
      }

  -- the vote that was noted last completed the quorum
  completed : (c : Call) (cs : List Call) (a : ℕ) (x : Vote) (v : ℕ) → z.nodes ≤ 7 → Notes (after_calls fresh cs) (after_calls fresh (c ∷ cs)) a x → is_accept_quorum (after_calls fresh cs).quorums (has_voted (votes_with (after_calls fresh cs) a x) x.ballot) ≡ true → x.value ≡ v → WasQuorum fresh (c ∷ cs) v
  completed c cs a x v few noted q e =
      record {
        later = [];
        earlier = c ∷ cs;
        split = refl;
        ballot = x.ballot;
        quorum = subst (λ t. HasQuorum t x.ballot) (sym noted.is) q;
        node = a;
        noted = ap (λ (t : NodeState). note_of t.votes a) noted.is ∙ (get_or-set_same s.votes a (Some x) None inside ∙ ap (λ u. Some (vote x.ballot u)) e);
      }
    where
      s : NodeState
      s = after_calls fresh cs

      below : a < s.quorums.nodes
      below = ltb-true a s.quorums.nodes (and_parts (ltb a s.quorums.nodes) (is_vote s.quorums.nodes x && is_at_most (note_of s.votes a) x.ballot) noted.may).0

      inside : a < length s.votes
      inside = let under = below in let places = (is_node cs).places in let count = ap (λ (x : Sizes). x.nodes) (is_node cs).quorums in omega arith

  learned_from : (cs : List Call) (v : ℕ) → z.nodes ≤ 7 → HasNoRestart cs → (after_calls fresh cs).learned ≡ Some v → WasQuorum fresh cs v
  learned_from [] v few h e = absurd (cc)
  learned_from (c ∷ cs) v few h e =
      let tail = no_restart_tail c cs h in
      elim (change_by fresh c cs h) [
        | inl same ↦ later_than c cs v (learned_from cs v few tail (sym same.learned ∙ e))
        | inr noted ↦ elim (learned_cases (after_calls fresh cs).learned _ noted.1.value v (sym (ap (λ (t : NodeState). t.learned) noted.2.is) ∙ e)) [
          | inl before ↦ later_than c cs v (learned_from cs v few tail before)
          | inr now ↦ completed c cs noted.0 noted.1 v few noted.2 now.0 now.1
        ]
      ]

pub learns_from_quorum : LearnsFromQuorum
learns_from_quorum me z kept calls v few h e = learned_from me z kept calls v few h e

pub quorum_is_learned : QuorumIsLearned
quorum_is_learned me z kept later earlier b are h q =
    stays_learned me z kept later earlier h (all_learned me z kept are earlier (no_restart_earlier later earlier h) b q)
