-- Each call of a node is what it is said to be in the world.
use Rattle.std.proofs.Common.{◌≡◌, ℕ, ◌<◌, ◌≤◌, ◌⊎◌, Bool, true, false, cond, not, ◌&&◌, ltb, [], ◌∷◌, set, Option, Some, None, is_none, IsTrue, IfSome, refl, sym, ap, ◌∙◌, subst, inl, inr, arith}
use Rattle.std.proofs.lemmas.Bool.{ltb-true, leb-true, eqb-true, and_parts, not-true}
use Rattle.paxos_core_world.specs.Ballot.{Owns}
use Rattle.paxos_core_world.specs.KeptPart.{KeptPart, with_offer, with_start, with_promise, with_vote, vote}
use Rattle.paxos_core_world.specs.Quorum.{Sizes, is_promise_quorum, is_accept_quorum, IsPromiseQuorum, IsAcceptQuorum}
use Rattle.paxos_core_world.specs.Step.{Label, Offers, Starts, Promises, Proposes, Accepts, Learns, Restarts, Allowed, after, HasOffered, NamesNone, IsHighest, IsSafeChoice, IsChosen}
use Rattle.paxos_core_world.specs.World.{World, Has}
use Rattle.paxos_core_world.specs.declared.msg.Msg.{Msg}
use Rattle.paxos_core_world.specs.declared.msg.Msg.TheVariants.{Prepare, Promise, Propose, Accepted}
use Rattle.paxos_core_world.specs.declared.vote.Vote.{Vote}
use Rattle.paxos_core_node_steps.specs.Acceptor.{promises, accepts}
use Rattle.paxos_core_node_steps.specs.Belongs.{Belongs, IsUnderWay}
use Rattle.paxos_core_node_steps.specs.Learner.{is_report, is_under_way, notes_promise, notes_vote, votes_with, learned_with}
use Rattle.paxos_core_node_steps.specs.Message.{reply, after_message}
use Rattle.paxos_core_node_steps.specs.NextBallot.{IsLeastAbove, IsSpent}
use Rattle.paxos_core_node_steps.specs.NodeState.{NodeState, restarted, offered, nothing_noted}
use Rattle.paxos_core_node_steps.specs.Notes.{note_of, has_promised, report_of, has_voted, highest_below}
use Rattle.paxos_core_node_steps.specs.Proposer.{floor_of, next_ballot, started, choice, may_propose, proposal_under, propose_message, proposal, after_answer, after_proposal}
use Rattle.paxos_core_node_steps.specs.Reached.{IsReached}
use Rattle.paxos_core_node_steps.specs.Taken.{taken_by_offer, taken_by_start, proposes, taken_by_propose, taken_by_restart, learns_from, taken_on, LearnsAtMost}
use Rattle.paxos_core_node_steps.specs.Takes.{Takes, TakesSteps, TakesStepsOn, IsStepOf}
use Rattle.paxos_core_node_steps.proofs.BallotLemmas.{least_above_is, spent}
use Rattle.paxos_core_node_steps.proofs.BelongsLemmas.{belongs_after, belongs_with, belongs_promise, belongs_vote, belongs_kept}
use Rattle.paxos_core_node_steps.proofs.NoteLemmas.{note_of-nothing, promised_report, report_promised, voted_vote, highest_below-none, IsHighestBelow, highest_below-some}
use Rattle.paxos_core_node_steps.proofs.ReachedLemmas.{proposed-started, one_vote}
use Rattle.paxos_core_node_steps.proofs.WorldLemmas.{put-same}

-- a call that does nothing takes no step
takes_nothing : (z : Sizes) (w : World) (s : NodeState) → Belongs z w s → Takes z w [] s None
takes_nothing z w s h = record { run = tt; own = tt; belongs = h; sent = tt }

-- a call that takes one step
takes_one : (z : Sizes) (w : World) (l : Label) (s : NodeState) (answer : Option Msg) → Allowed z w l → IsStepOf z.nodes s.me l → Belongs z (after w l) s → IfSome answer (λ m. Has m (after w l).sent) → Takes z w (l ∷ []) s answer
takes_one z w l s answer a o h m = record { run = (tt, a); own = (o, tt); belongs = h; sent = m }

-- ---- offer

kept_offer : (k : KeptPart) → k.offered ≡ true → k ≡ with_offer k
kept_offer k e =
    ap {B = KeptPart} (λ o. record { offered = o; started = k.started; promised = k.promised; accepted = k.accepted }) e

offer_by : (t : Bool) (z : Sizes) (w : World) (s : NodeState) → Belongs z w s → s.kept.offered ≡ t → Takes z w (cond t [] (Offers s.me ∷ [])) (offered s) None
offer_by true z w s h e = takes_nothing z w (offered s) (belongs_kept z w s (with_offer s.kept) h (kept_offer s.kept e))
offer_by false z w s h e =
    takes_one z w (Offers s.me) (offered s) None
    (h.number, ap (λ (k : KeptPart). k.offered) h.kept ∙ e)
    refl
    (belongs_after z w (Offers s.me) s (with_offer s.kept) h (put-same w.nodes s.me _ ∙ ap with_offer h.kept) refl (λ b i. tt))
    tt

pub offer_takes : (s : NodeState) → TakesSteps s (offered s) (taken_by_offer s) None
offer_takes s z w r h = offer_by s.kept.offered z w s h refl

-- ---- restart

pub restart_takes : (s : NodeState) (k : KeptPart) (z : Sizes) (w : World) → s.me < z.nodes → s.quorums ≡ z → w.nodes s.me ≡ k → Takes z w (taken_by_restart s) (restarted s k) None
restart_takes s k z w i c e =
    takes_one z w (Restarts s.me) (restarted s k) None i refl
    (subst (λ m. Belongs z w (record (restarted s k) { quorums = m })) (sym c) (belongs_with z w s.me k i e))
    tt

-- ---- start

pub next_ballot_is : (s : NodeState) → s.me < s.quorums.nodes → IsLeastAbove s.me s.quorums.nodes (floor_of s) (next_ballot s)
next_ballot_is s h = least_above_is s.me s.quorums.nodes (floor_of s) h

pub ballots_spent : (s : NodeState) → s.me < s.quorums.nodes → 65535 < next_ballot s → IsSpent s.me s.quorums.nodes (floor_of s)
ballots_spent s h past = spent s.me s.quorums.nodes (floor_of s) (next_ballot s) (next_ballot_is s h) past

started_belongs : (z : Sizes) (b : ℕ) (w : World) (s : NodeState) → Belongs z w s → IsReached z w → Owns z.nodes s.me b → s.kept.started < b → Belongs z (after w (Starts s.me b)) (record s { kept = with_start b s.kept; ballot = Some b; proposed = false; promises = nothing_noted })
started_belongs z b w s h r o lt =
    record {
      quorums = h.quorums;
      number = h.number;
      kept = put-same w.nodes s.me _ ∙ ap (with_start b) h.kept;
      ballot = λ c e. subst (λ x. IsUnderWay z.nodes (after w (Starts s.me b)) s.me x false) (ballot_of b c e) under;
      started = λ c e. ballot_of b c e;
      promises = λ c a q e p. absurd (note_of-nothing a q p);
      votes = λ a x e. inr (h.votes a x e);
      learned = h.learned;
    }
  where
    ballot_of : (b c : ℕ) → ◌≡◌ {A = Option ℕ} (Some b) (Some c) → b ≡ c
    ballot_of b c e = cc

    fresh : (v : ℕ) → ¬ Has (Propose b v) w.sent
    fresh v p =
        let past = proposed-started z w s.me b v r h.number o p in
        let same = ap (λ (k : KeptPart). k.started) h.kept in
        omega arith

    under : IsUnderWay z.nodes (after w (Starts s.me b)) s.me b false
    under = record { own = o; begun = inl refl; unproposed = λ f v p. elim p [ inl e ↦ absurd (cc) | inr e ↦ fresh v e ] }

start_by : (z : Sizes) (b : ℕ) (w : World) (s : NodeState) → IsReached z w → Belongs z w s → IsLeastAbove s.me s.quorums.nodes (floor_of s) b → b ≤ 65535 → Takes z w (Starts s.me b ∷ []) (record s { kept = with_start b s.kept; ballot = Some b; proposed = false; promises = nothing_noted }) (Some (Prepare b))
start_by z b w s r h least last =
    let above : floor_of s < b = least.above in
    let over : s.kept.started < b = omega arith in
    let first : 1 ≤ b = omega arith in
    let own : Owns z.nodes s.me b = record { first = first; last = last; turn = rw h.quorums at least.turn } in
    takes_one z w (Starts s.me b) _ (Some (Prepare b))
    (h.number, own, rw (← h.kept) at over)
    refl
    (started_belongs z b w s h r own over)
    (inl refl)

pub start_takes : (s : NodeState) → next_ballot s ≤ 65535 → TakesSteps s (started s) (taken_by_start s) (Some (Prepare (next_ballot s)))
start_takes s last z w r h = start_by z (next_ballot s) w s r h (next_ballot_is s (rw (← h.quorums) at h.number)) last

-- ---- propose

-- the promises noted are those of a safe choice
members_promised : (z : Sizes) (b : ℕ) (w : World) (s : NodeState) → Belongs z w s → s.ballot ≡ Some b → (a : ℕ) → a < z.nodes → IsTrue (has_promised s.promises a) → Has (Promise a b (report_of s.promises a)) w.sent
members_promised z b w s h e a k m = h.promises b a (report_of s.promises a) e (promised_report s.promises a m)

-- a choice is the highest report's value, or the node's own number where nothing is reported and it has offered
choice_cases : (o : Option Vote) (t : Bool) (me v : ℕ) → choice o t me ≡ Some v → ((o ≡ None) × (t ≡ true) × (me ≡ v)) ⊎ ((x : Vote) × (o ≡ Some x) × (x.value ≡ v))
choice_cases (Some x) t me v h = inr (x, refl, cc)
choice_cases None true me v h = inl (refl, refl, cc)
choice_cases None false me v h = absurd (cc)

choice_safe : (z : Sizes) (v : ℕ) (w : World) (s : NodeState) → Belongs z w s → choice (highest_below s.quorums.nodes s.promises) s.kept.offered s.me ≡ Some v → (NamesNone z.nodes (has_promised s.promises) (report_of s.promises) × HasOffered z.nodes w.nodes v) ⊎ IsHighest z.nodes (has_promised s.promises) (report_of s.promises) v
choice_safe z v w s h c =
    elim (choice_cases (highest_below s.quorums.nodes s.promises) s.kept.offered s.me v c) [
      | inl e ↦ inl (names_none e.0, own_number e.1 e.2)
      | inr e ↦ inr (highest e.0 e.1 e.2)
    ]
  where
    names_none : highest_below s.quorums.nodes s.promises ≡ None → NamesNone z.nodes (has_promised s.promises) (report_of s.promises)
    names_none e a k m = highest_below-none s.quorums.nodes s.promises e a (rw (← h.quorums) at k)

    own_number : s.kept.offered ≡ true → s.me ≡ v → HasOffered z.nodes w.nodes v
    own_number o e = rw (← e) (h.number, ap (λ (k : KeptPart). k.offered) h.kept ∙ o)

    highest : (x : Vote) → highest_below s.quorums.nodes s.promises ≡ Some x → x.value ≡ v → IsHighest z.nodes (has_promised s.promises) (report_of s.promises) v
    highest x e q =
        let top : IsHighestBelow s.quorums.nodes s.promises x = highest_below-some s.quorums.nodes s.promises x e in
        record {
          node = top.node;
          ballot = x.ballot;
          below = subst (λ m. top.node < m.nodes) h.quorums top.below;
          member = report_promised s.promises top.node x top.report;
          report = top.report ∙ ap (λ u. Some (vote x.ballot u)) q;
          highest = λ a y k m i. top.highest a y (rw (← h.quorums) at k) i;
        }

propose_one : (z : Sizes) (b v : ℕ) (w : World) (s : NodeState) → Belongs z w s → s.ballot ≡ Some b → may_propose s ≡ true → choice (highest_below s.quorums.nodes s.promises) s.kept.offered s.me ≡ Some v → Takes z w (Proposes b v ∷ []) (record s { proposed = true }) (Some (Propose b v))
propose_one z b v w s h e m c =
    takes_one z w (Proposes b v) (record s { proposed = true }) (Some (Propose b v))
    (under.begun, under.unproposed (not-true s.proposed parts.0), safe)
    under.own
    belongs
    (inl refl)
  where
    under : IsUnderWay z.nodes w s.me b s.proposed
    under = h.ballot b e

    parts : (not s.proposed ≡ true) × IsPromiseQuorum s.quorums (has_promised s.promises)
    parts = and_parts (not s.proposed) (is_promise_quorum s.quorums (has_promised s.promises)) m

    quorum : IsPromiseQuorum z (has_promised s.promises)
    quorum = subst (λ m. IsPromiseQuorum m (has_promised s.promises)) h.quorums parts.1

    safe : IsSafeChoice z w b v
    safe =
        record {
          members = has_promised s.promises;
          reports = report_of s.promises;
          quorum = quorum;
          promises = members_promised z b w s h e;
          choice = choice_safe z v w s h c;
        }

    belongs : Belongs z (after w (Proposes b v)) (record s { proposed = true })
    belongs =
        record {
          quorums = h.quorums;
          number = h.number;
          kept = h.kept;
          ballot = λ x i. record { own = (h.ballot x i).own; begun = (h.ballot x i).begun; unproposed = λ f. absurd (cc) };
          started = h.started;
          promises = λ x a r i j. inr (h.promises x a r i j);
          votes = λ a x i. inr (h.votes a x i);
          learned = h.learned;
        }

abbrev proposal_by : Option ℕ → Bool → Option ℕ → Option Msg
proposal_by o t c = propose_message (proposal_under o t c)

propose_by : (o : Option ℕ) (t : Bool) (c : Option ℕ) (z : Sizes) (w : World) (s : NodeState) → Belongs z w s → s.ballot ≡ o → may_propose s ≡ t → choice (highest_below s.quorums.nodes s.promises) s.kept.offered s.me ≡ c → Takes z w (proposes (proposal_by o t c)) (after_answer s (proposal_by o t c)) (proposal_by o t c)
propose_by None t c z w s h e m d = takes_nothing z w s h
propose_by (Some b) false c z w s h e m d = takes_nothing z w s h
propose_by (Some b) true None z w s h e m d = takes_nothing z w s h
propose_by (Some b) true (Some v) z w s h e m d = propose_one z b v w s h e m d

-- whatever else has come about
pub propose_anywhere : (s : NodeState) (z : Sizes) (w : World) → Belongs z w s → Takes z w (taken_by_propose s) (after_proposal s) (proposal s)
propose_anywhere s z w h = propose_by s.ballot (may_propose s) _ z w s h refl refl refl

pub propose_takes : (s : NodeState) → TakesSteps s (after_proposal s) (taken_by_propose s) (proposal s)
propose_takes s z w r h = propose_anywhere s z w h

-- ---- on a message

prepare_by : (t : Bool) (z : Sizes) (b : ℕ) (w : World) (s : NodeState) → Belongs z w s → Has (Prepare b) w.sent → promises s b ≡ t → Takes z w (cond t (Promises s.me b ∷ []) []) (cond t (record s { kept = with_promise b s.kept }) s) (cond t (Some (Promise s.me b s.kept.accepted)) None)
prepare_by false z b w s h m t = takes_nothing z w s h
prepare_by true z b w s h m t =
    takes_one z w (Promises s.me b) (record s { kept = with_promise b s.kept }) (Some (Promise s.me b s.kept.accepted))
    (h.number, m, rw h.kept (ltb-true s.kept.promised b t))
    refl
    (belongs_after z w (Promises s.me b) s (with_promise b s.kept) h (put-same w.nodes s.me _ ∙ ap (with_promise b) h.kept) refl (λ c e. tt))
    (inl (ap (λ (k : KeptPart). Promise s.me b k.accepted) (sym h.kept)))

accept_by : (t : Bool) (z : Sizes) (b v : ℕ) (w : World) (s : NodeState) → Belongs z w s → Has (Propose b v) w.sent → accepts s (vote b v) ≡ t → Takes z w (cond t (Accepts s.me b v ∷ []) []) (cond t (record s { kept = with_vote (vote b v) s.kept }) s) (cond t (Some (Accepted s.me b v)) None)
accept_by false z b v w s h m t = takes_nothing z w s h
accept_by true z b v w s h m t =
    let parts = and_parts _ _ t in
    takes_one z w (Accepts s.me b v) (record s { kept = with_vote (vote b v) s.kept }) (Some (Accepted s.me b v))
    (h.number, m, rw h.kept (leb-true s.kept.promised b parts.1))
    refl
    (belongs_after z w (Accepts s.me b v) s (with_vote (vote b v) s.kept) h (put-same w.nodes s.me _ ∙ ap (with_vote (vote b v)) h.kept) refl (λ c e. tt))
    (inl refl)

under_way : (o : Option ℕ) (b : ℕ) → is_under_way o b ≡ true → o ≡ Some b
under_way None b h = absurd (cc)
under_way (Some c) b h = ap Some (eqb-true c b h)

last_of_four : (p q r t : Bool) → (p && (q && (r && t))) ≡ true → t ≡ true
last_of_four p q r t h = (and_parts r t (and_parts q (r && t) (and_parts p (q && (r && t)) h).1).1).1

noted_under_way : (s : NodeState) (a b : ℕ) (r : Option Vote) → notes_promise s a b r ≡ true → s.ballot ≡ Some b
noted_under_way s a b r h =
    under_way s.ballot b (last_of_four (ltb 0 b) (ltb a s.quorums.nodes) (is_report s.quorums.nodes b r) _ h)

promise_by : (t : Bool) (z : Sizes) (b a : ℕ) (r : Option Vote) (w : World) (s : NodeState) → Belongs z w s → Has (Promise a b r) w.sent → notes_promise s a b r ≡ t → Takes z w [] (cond t (record s { promises = set s.promises a (Some r) }) s) None
promise_by false z b a r w s h m t = takes_nothing z w s h
promise_by true z b a r w s h m t = takes_nothing z w _ (belongs_promise z w s b a r h (noted_under_way s a b r t) m)

-- noted votes of an accept quorum under one ballot show that their value is chosen
chosen : (z : Sizes) (w : World) (s : NodeState) (a : ℕ) (x : Vote) → IsReached z w → Belongs z w s → Has (Accepted a x.ballot x.value) w.sent → IsAcceptQuorum s.quorums (has_voted s.votes x.ballot) → IsChosen z w x.ballot x.value
chosen z w s a x r h m q =
    record { members = has_voted s.votes x.ballot; quorum = subst (λ m. IsAcceptQuorum m (has_voted s.votes x.ballot)) h.quorums q; votes = λ c k i. vote_sent c (voted_vote s.votes x.ballot c i) }
  where
    vote_sent : (c : ℕ) → ((y : Vote) × (note_of s.votes c ≡ Some y) × (y.ballot ≡ x.ballot)) → Has (Accepted c x.ballot x.value) w.sent
    vote_sent c y =
        let sent : Has (Accepted c x.ballot y.0.value) w.sent = rw y.2 at (h.votes c y.0 y.1) in
        rw (one_vote z w a c x.ballot x.value y.0.value r m sent) sent

learn_by : (t : Bool) (o : Option ℕ) (q : Bool) (z : Sizes) (w : World) (s : NodeState) (a : ℕ) (x : Vote) → IsReached z w → Belongs z w s → Has (Accepted a x.ballot x.value) w.sent → s.learned ≡ o → is_accept_quorum s.quorums (has_voted (votes_with s a x) x.ballot) ≡ q → Takes z w (cond (t && (is_none o && q)) (Learns s.me x.value ∷ []) []) (cond t (record s { votes = votes_with s a x; learned = learned_with o q x.value }) s) None
learn_by false o q z w s a x r h m e k = takes_nothing z w s h
learn_by true (Some u) q z w s a x r h m e k = takes_nothing z w _ (belongs_vote z w s a x (Some u) h m (λ v i. h.learned v (e ∙ i)))
learn_by true None false z w s a x r h m e k = takes_nothing z w _ (belongs_vote z w s a x None h m (λ v i. absurd (cc)))
learn_by true None true z w s a x r h m e k =
    takes_one z w (Learns s.me x.value) (record s { votes = votes_with s a x; learned = Some x.value }) None
    (h.number, (x.ballot, chosen z w (record s { votes = votes_with s a x; learned = None }) a x r (belongs_vote z w s a x None h m (λ v i. absurd (cc))) m k))
    refl
    (belongs_vote z (after w (Learns s.me x.value)) s a x (Some x.value) there m (λ v i. inl (learned_pair s.me v x.value i)))
    tt
  where
    there : Belongs z (after w (Learns s.me x.value)) s
    there = belongs_after z w (Learns s.me x.value) s s.kept h h.kept refl (λ b i. tt)

    learned_pair : (i v u : ℕ) → ◌≡◌ {A = Option ℕ} (Some u) (Some v) → ◌≡◌ {A = ℕ × ℕ} (i, v) (i, u)
    learned_pair i v u e = let same : v ≡ u = cc in ap {B = ℕ × ℕ} (λ z. (i, z)) same

pub on_takes : (s : NodeState) (m : Msg) → TakesStepsOn s m (after_message s m) (taken_on s m) (reply s m)
on_takes s (Prepare b) z w r h m = prepare_by (promises s b) z b w s h m refl
on_takes s (Propose b v) z w r h m = accept_by (accepts s (vote b v)) z b v w s h m refl
on_takes s (Promise a b report) z w r h m = promise_by (notes_promise s a b report) z b a report w s h m refl
on_takes s (Accepted a b v) z w r h m = learn_by (notes_vote s a (vote b v)) s.learned _ z w s a (vote b v) r h m refl refl

learn_at_most : (t : Bool) (i v : ℕ) → LearnsAtMost i (cond t (Learns i v ∷ []) [])
learn_at_most false i v = tt
learn_at_most true i v = refl

quiet_promise : (t : Bool) (i b : ℕ) (m : Msg) → cond t (Some m) None ≡ None → LearnsAtMost i (cond t (Promises i b ∷ []) [])
quiet_promise false i b m h = tt
quiet_promise true i b m h = cc

quiet_accept : (t : Bool) (i b v : ℕ) (m : Msg) → cond t (Some m) None ≡ None → LearnsAtMost i (cond t (Accepts i b v ∷ []) [])
quiet_accept false i b v m h = tt
quiet_accept true i b v m h = cc

-- where a message gets no answer, the node takes no step but to learn
pub on_quiet : (s : NodeState) (m : Msg) → reply s m ≡ None → LearnsAtMost s.me (taken_on s m)
on_quiet s (Prepare b) h = quiet_promise (promises s b) s.me b _ h
on_quiet s (Propose b v) h = quiet_accept (accepts s (vote b v)) s.me b v _ h
on_quiet s (Promise a b report) h = tt
on_quiet s (Accepted a b v) h = learn_at_most (learns_from s a (vote b v)) s.me v

-- ---- the same of what a call left and answered

pub offer_step : (s t : NodeState) → t ≡ offered s → TakesSteps s t (taken_by_offer s) None
offer_step s t e z w r h = rw e (offer_takes s z w r h)

pub start_step : (s t : NodeState) (sent : Msg) → t ≡ started s → sent ≡ Prepare (next_ballot s) → next_ballot s ≤ 65535 → TakesSteps s t (taken_by_start s) (Some sent)
start_step s t sent e f last z w r h = rw (e, f) (start_takes s last z w r h)

pub propose_step : (s t : NodeState) (answer : Option Msg) → t ≡ after_proposal s → answer ≡ proposal s → TakesSteps s t (taken_by_propose s) answer
propose_step s t answer e f z w r h = rw (e, f) (propose_takes s z w r h)

pub on_step : (s t : NodeState) (m : Msg) (answer : Option Msg) → t ≡ after_message s m → answer ≡ reply s m → TakesStepsOn s m t (taken_on s m) answer
on_step s t m answer e f z w r h k = rw (e, f) (on_takes s m z w r h k)

pub forget_step : (s t : NodeState) → t ≡ restarted s s.kept → TakesSteps s t (taken_by_restart s) None
forget_step s t e z w r h = rw e (restart_takes s s.kept z w h.number h.quorums h.kept)
