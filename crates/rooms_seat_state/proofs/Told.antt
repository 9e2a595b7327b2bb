-- What a seat tells is what it does, and what a look at an acceptor leaves.
use Rattle.std.proofs.Common.{◌≡◌, ℕ, zero, suc, max, ◌+◌, ◌<◌, ◌≤◌, ◌↔◌, Bool, true, false, cond, leb, List, get_or, replicate, get_or-set_other, Option, Some, None, Ok, Err, is_some, IfSome, IfOk, OnErr, IsErr, IsNone, Result, option_map, zero-add, refl, sym, ap, ◌∙◌, subst, arith}
use Rattle.std.proofs.lemmas.Bool.{le-leb, leb-true}
use Rattle.paxos_core_world.specs.KeptPart.{vote}
use Rattle.paxos_core_world.specs.Quorum.{count_below, promise_quorum, AreQuorums, Sizes}
use Rattle.paxos_core_world.proofs.Quorums.{some_promise}
use Rattle.paxos_core_world.specs.declared.vote.Vote.{Vote}
use Rattle.paxos_core_node_steps.specs.Acceptor.{promises, accepts}
use Rattle.paxos_core_node_steps.specs.Learner.{learned_with, notes_promise, notes_vote, after_promise}
use Rattle.paxos_core_node_steps.specs.NodeState.{NodeState, nothing_noted}
use Rattle.paxos_core_node_steps.specs.Notes.{has_promised, highest_below}
use Rattle.paxos_core_node_steps.specs.Proposer.{floor_of, next_ballot, started, next_proposal, propose_message, proposal_under, choice, after_answer}
use Rattle.paxos_core_node_steps.specs.Would.{after_act, kept_by_step}
use Rattle.paxos_core_node_steps.specs.Would as core
use Rattle.paxos_core_node_steps.specs.declared.step.Act.{Act as CoreAct}
use Rattle.paxos_core_node_steps.specs.declared.step.Act.TheVariants as core_act
use Rattle.paxos_core_node_steps.specs.declared.step.Step.{Step}
use Rattle.paxos_core_node_steps.specs.declared.step.Step.TheVariants as step
use Rattle.paxos_core_node_steps.proofs.BallotLemmas.{least_above_is}
use Rattle.paxos_core_node_steps.proofs.WouldLemmas.{told_is_done, proposed_once}
use Rattle.rooms_words.specs.Heard.{after_shown_vote, after_hearing}
use Rattle.rooms_words.specs.declared.acceptor.AcceptorWord.{AcceptorWord}
use Rattle.rooms_steps.proofs.HearLemmas.{me_hearing}
use Rattle.rooms_seat_state.specs.declared.act.SeatAct.{SeatAct}
use Rattle.rooms_seat_state.specs.declared.act.SeatAct.TheVariants as act
use Rattle.rooms_seat_state.specs.Did.{Did, LookedAtAcceptor, NotesOf}
use Rattle.rooms_seat_state.specs.SeatState.{SeatState, no_acceptor, proposer_of, promise_of, vote_of}
use Rattle.rooms_seat_state.specs.Would.{would, act_of, proposed_by_step, IsStarted, ProposesNoMore, Acted}
use Rattle.rooms_seat_state.proofs.Acts.{may_promise, vote_seen}
use Rattle.rooms_seat_state.proofs.Moves.{kept_hearing}

-- ---- what an act leaves of a node

field_if : {A : Type 0} (f : NodeState → A) (t : Bool) (s u : NodeState) → f u ≡ f s → f (cond t u s) ≡ f s
field_if f true s u e = e
field_if f false s u e = refl

field_answer : {A : Type 0} (f : NodeState → A) (s : NodeState) (o : Option (ℕ × ℕ)) → f (record s { proposed = true }) ≡ f s → f (after_answer s (propose_message o)) ≡ f s
field_answer f s None e = refl
field_answer f s (Some p) e = e

learned_act : (s : NodeState) (a : CoreAct) → (after_act s a).learned ≡ s.learned
learned_act s core_act.Start = field_if (λ (t : NodeState). t.learned) (leb (next_ballot s) 65535) s (started s) refl
learned_act s (core_act.Promise b) = field_if (λ (t : NodeState). t.learned) (promises s b) s _ refl
learned_act s core_act.Propose = field_answer (λ (t : NodeState). t.learned) s (next_proposal s) refl
learned_act s (core_act.Accept b v) = field_if (λ (t : NodeState). t.learned) (accepts s (vote b v)) s _ refl

me_act : (s : NodeState) (a : CoreAct) → (after_act s a).me ≡ s.me
me_act s core_act.Start = field_if (λ (t : NodeState). t.me) (leb (next_ballot s) 65535) s (started s) refl
me_act s (core_act.Promise b) = field_if (λ (t : NodeState). t.me) (promises s b) s _ refl
me_act s core_act.Propose = field_answer (λ (t : NodeState). t.me) s (next_proposal s) refl
me_act s (core_act.Accept b v) = field_if (λ (t : NodeState). t.me) (accepts s (vote b v)) s _ refl

quorums_act : (s : NodeState) (a : CoreAct) → (after_act s a).quorums ≡ s.quorums
quorums_act s core_act.Start = field_if (λ (t : NodeState). t.quorums) (leb (next_ballot s) 65535) s (started s) refl
quorums_act s (core_act.Promise b) = field_if (λ (t : NodeState). t.quorums) (promises s b) s _ refl
quorums_act s core_act.Propose = field_answer (λ (t : NodeState). t.quorums) s (next_proposal s) refl
quorums_act s (core_act.Accept b v) = field_if (λ (t : NodeState). t.quorums) (accepts s (vote b v)) s _ refl

-- ---- what the seat did is what it told

some_is : (s : Step) (o : Option Step) → o ≡ Some s → o ≡ None → ⊥
some_is s o e n = let bad : Some s ≡ None = sym e ∙ n in cc

did_acted : (a : SeatAct) (s : Step) (old new : SeatState) → would old a ≡ Some s → core.would old.node (act_of s) ≡ Some s → Did (act_of s) (proposed_by_step s old.proposed) old new
    → IsStarted (Some s) new → ProposesNoMore a (Some s) new → Acted a old new
did_acted a s old new e told did way more =
    let node : new.node ≡ after_act old.node (act_of s) = ap (λ (x : SeatState). x.node) did.after in
    record {
      stepped = subst (λ (o : Option Step). IfSome o (λ s. Did (act_of s) (proposed_by_step s old.proposed) old new)) (sym e) did;
      idle = λ n. absurd (some_is s (would old a) e n);
      kept =
          ap (λ (t : NodeState). t.kept) node
          ∙ ((told_is_done old.node (act_of s)).kept ∙ ap (λ (o : Option Step). kept_by_step o old.node.kept) (told ∙ sym e));
      table = ap (λ (x : SeatState). x.table) did.after;
      me = ap (λ (t : NodeState). t.me) node ∙ me_act old.node (act_of s);
      quorums = ap (λ (t : NodeState). t.quorums) node ∙ quorums_act old.node (act_of s);
      learned = ap (λ (t : NodeState). t.learned) node ∙ learned_act old.node (act_of s);
      proposers = ap (λ (x : SeatState). x.proposers) did.after;
      acceptors = ap (λ (x : SeatState). x.acceptors) did.after;
      under_way = subst (λ (o : Option Step). IsStarted o new) (sym e) way;
      no_more = subst (λ (o : Option Step). ProposesNoMore a o new) (sym e) more;
    }

no_more_none : (a : SeatAct) (s : SeatState) → would s a ≡ None → ProposesNoMore a (would s a) s
no_more_none act.Start s e = λ d. absurd (d e)
no_more_none (act.Promise j) s e = tt
no_more_none act.Propose s e = e
no_more_none (act.Accept j) s e = tt

none_acted : (a : SeatAct) (old new : SeatState) → would old a ≡ None → new ≡ old → Acted a old new
none_acted a old new e same =
    subst (λ (x : SeatState). Acted a old x) (sym same)
    record {
      stepped = subst (λ (o : Option Step). IfSome o (λ s. Did (act_of s) (proposed_by_step s old.proposed) old old)) (sym e) tt;
      idle = λ n. refl;
      kept = ap (λ (o : Option Step). kept_by_step o old.node.kept) (sym e);
      table = refl;
      me = refl;
      quorums = refl;
      learned = refl;
      proposers = refl;
      acceptors = refl;
      under_way = subst (λ (o : Option Step). IsStarted o old) (sym e) tt;
      no_more = no_more_none a old e;
    }

pub acted_promise : (j : ℕ) (old new : SeatState) (r : Option ℕ) → r ≡ promise_of old j → IfSome r (λ b. Did (core_act.Promise b) old.proposed old new) → (IsNone r → new ≡ old) → Acted (act.Promise j) old new
acted_promise j old new None e did same = none_acted (act.Promise j) old new (ap (λ (o : Option ℕ). option_map step.Promise o) (sym e)) (same refl)
acted_promise j old new (Some b) e did same =
    let told = may_promise (promises old.node (proposer_of old j).started) b (proposer_of old j).started e in
    let may : promises old.node b ≡ true = subst (λ (d : ℕ). promises old.node d ≡ true) (sym told.1) told.0 in
    did_acted (act.Promise j) (step.Promise b) old new (ap (λ (o : Option ℕ). option_map step.Promise o) (sym e))
    (ap (λ (t : Bool). option_map step.Promise (cond t (Some b) None)) may) did tt tt

pub acted_accept : (j : ℕ) (old new : SeatState) (r : Option Vote) → r ≡ vote_of old j → IfSome r (λ x. Did (core_act.Accept x.ballot x.value) old.proposed old new) → (IsNone r → new ≡ old) → Acted (act.Accept j) old new
acted_accept j old new None e did same =
    none_acted (act.Accept j) old new (ap (λ (o : Option Vote). option_map (λ (x : Vote). step.Accept x.ballot x.value) o) (sym e)) (same refl)
acted_accept j old new (Some x) e did same =
    let told = vote_seen old.node (proposer_of old j).started (proposer_of old j).proposed x e in
    did_acted (act.Accept j) (step.Accept x.ballot x.value) old new (ap (λ (o : Option Vote). option_map (λ (x : Vote). step.Accept x.ballot x.value) o) (sym e))
    (ap (λ (t : Bool). option_map (λ (x : Vote). step.Accept x.ballot x.value) (cond t (Some x) None)) told.0) did tt tt

pub acted_propose : (old new : SeatState) (r : Option (ℕ × ℕ)) → r ≡ next_proposal old.node → IfSome r (λ p. Did core_act.Propose (Some p.1) old new) → (IsNone r → new ≡ old) → Acted act.Propose old new
acted_propose old new None e did same =
    none_acted act.Propose old new (ap (λ (o : Option (ℕ × ℕ)). option_map (λ (p : ℕ × ℕ). step.Propose p.0 p.1) o) (sym e)) (same refl)
acted_propose old new (Some p) e did same =
    let told : would old act.Propose ≡ Some (step.Propose p.0 p.1) = ap (λ (o : Option (ℕ × ℕ)). option_map (λ (p : ℕ × ℕ). step.Propose p.0 p.1) o) (sym e) in
    let node : new.node ≡ after_act old.node core_act.Propose = ap (λ (x : SeatState). x.node) did.after in
    did_acted act.Propose (step.Propose p.0 p.1) old new told told did tt
    (ap (λ (t : NodeState). core.would t core_act.Propose) node ∙ proposed_once old.node)

-- ---- a start

get_or-none : (n i : ℕ) → ◌≡◌ {A = Option (Option Vote)} (get_or (replicate n None) i None) None
get_or-none zero i = refl
get_or-none (suc n) zero = refl
get_or-none (suc n) (suc i) = get_or-none n i

none_promised : (n : ℕ) → count_below n (has_promised nothing_noted) ≡ 0
none_promised zero = refl
none_promised (suc n) = ap (λ (o : Option (Option Vote)). cond (is_some o) 1 0 + count_below n (has_promised nothing_noted)) (get_or-none 7 n)
    ∙ (zero-add (count_below n (has_promised nothing_noted)) ∙ none_promised n)

-- nobody is no promise quorum
nobody_promises : (q : Sizes) → AreQuorums q → promise_quorum q 0 ≡ false
nobody_promises q are = by_case (promise_quorum q 0) refl
  where
    by_case : (t : Bool) → promise_quorum q 0 ≡ t → promise_quorum q 0 ≡ false
    by_case true e = let some : 0 < 0 = some_promise q are 0 e in absurd (omega arith)
    by_case false e = e

nothing_under : (o : Option ℕ) (c : Option ℕ) → proposal_under o false c ≡ None
nothing_under None c = refl
nothing_under (Some b) c = refl

started_proposes_none : (s : NodeState) → AreQuorums s.quorums → next_proposal (started s) ≡ None
started_proposes_none s are =
    ap (λ (t : Bool). proposal_under (Some (next_ballot s)) t (choice (highest_below s.quorums.nodes nothing_noted) s.kept.offered s.me))
    (ap (λ (c : ℕ). promise_quorum s.quorums c) (none_promised s.quorums.nodes) ∙ nobody_promises s.quorums are)

below_max : (a b : ℕ) → b ≤ max a b
below_max a b = omega arith

pub acted_start : {E : Type 0} (old new : SeatState) (r : Result ℕ E) → AreQuorums old.node.quorums → old.node.me < old.node.quorums.nodes → IfOk r (λ b. (b ≡ next_ballot old.node) × Did core_act.Start None old new) → (IsErr r ↔ (65535 < next_ballot old.node)) → OnErr r (new ≡ old) → Acted act.Start old new
acted_start old new (Err x) are lt did spent same =
    let over : 65535 < next_ballot old.node = spent.0 refl in
    none_acted act.Start old new (ap (λ (t : Bool). option_map step.Start (cond t (Some (next_ballot old.node)) None)) (leb_over (next_ballot old.node) over)) same
  where
    leb_over : (b : ℕ) → 65535 < b → leb b 65535 ≡ false
    leb_over b h = by_cases (leb b 65535) refl
      where
        by_cases : (t : Bool) → leb b 65535 ≡ t → leb b 65535 ≡ false
        by_cases true e = let low : b ≤ 65535 = leb-true b 65535 e in absurd (omega arith)
        by_cases false e = e
acted_start old new (Ok b) are lt did spent same =
    let no : 65535 < next_ballot old.node → ⊥ = λ h. let bad : false ≡ true = spent.1 h in cc in
    let low : next_ballot old.node ≤ 65535 = omega arith in
    let left : leb (next_ballot old.node) 65535 ≡ true = le-leb (next_ballot old.node) 65535 low in
    let told : would old act.Start ≡ Some (step.Start b) =
    ap (λ (t : Bool). option_map step.Start (cond t (Some (next_ballot old.node)) None)) left ∙ ap (λ (c : ℕ). Some (step.Start c)) (sym did.0) in
    let node : new.node ≡ started old.node =
    ap (λ (x : SeatState). x.node) did.1.after ∙ ap (λ (t : Bool). cond t (started old.node) old.node) left in
    let above : floor_of old.node < next_ballot old.node = (least_above_is old.node.me old.node.quorums.nodes (floor_of old.node) lt).above in
    let top : old.node.kept.promised ≤ floor_of old.node = below_max old.node.kept.started old.node.kept.promised in
    let bound : old.node.kept.promised < b = subst (λ (c : ℕ). old.node.kept.promised < c) (sym did.0) (omega arith) in
    did_acted act.Start (step.Start b) old new told told did.1 (
      ap (λ (t : NodeState). t.ballot) node ∙ ap (λ (c : ℕ). Some c) (sym did.0),
      subst (λ (t : NodeState). t.kept.promised < b) (sym node) bound,
    )
    (λ some. ap (λ (t : NodeState). option_map (λ (p : ℕ × ℕ). step.Propose p.0 p.1) (next_proposal t)) node
    ∙ ap (λ (o : Option (ℕ × ℕ)). option_map (λ (p : ℕ × ℕ). step.Propose p.0 p.1) o) (started_proposes_none old.node are))

-- ---- a look at an acceptor

field_shown : {A : Type 0} (f : NodeState → A) (s : NodeState) (j : ℕ) (x : Option Vote)
    → ((t : NodeState) (vs : List (Option Vote)) (l : Option ℕ) → f (record t { votes = vs; learned = l }) ≡ f t) → f (after_shown_vote s j x) ≡ f s
field_shown f s j None e = refl
field_shown f s j (Some x) e = field_if f (notes_vote s j x) s _ (e s _ _)

learned_stays : (o : Option ℕ) (t : Bool) (u v : ℕ) → o ≡ Some v → learned_with o t u ≡ Some v
learned_stays None t u v e = absurd (cc)
learned_stays (Some w) t u v e = e

learned_if : (t : Bool) (s u : NodeState) (v : ℕ) → u.learned ≡ Some v → s.learned ≡ Some v → (cond t u s).learned ≡ Some v
learned_if true s u v e h = e
learned_if false s u v e h = h

learned_shown : (s : NodeState) (j : ℕ) (x : Option Vote) (v : ℕ) → s.learned ≡ Some v → (after_shown_vote s j x).learned ≡ Some v
learned_shown s j None v e = e
learned_shown s j (Some x) v e = learned_if (notes_vote s j x) s _ v (learned_stays s.learned _ x.value v e) e

field_hearing : {A : Type 0} (f : NodeState → A) (s : NodeState) (j p : ℕ) (x : Option Vote)
    → ((t : NodeState) (vs : List (Option Vote)) (l : Option ℕ) → f (record t { votes = vs; learned = l }) ≡ f t)
    → ((t : NodeState) (ps : List (Option (Option Vote))) → f (record t { promises = ps }) ≡ f t) → f (after_hearing s j p x) ≡ f s
field_hearing f s j p x e q = field_shown f (after_promise s j p x) j x e ∙ field_if f (notes_promise s j p x) s _ (q s _)

pub notes_of : (j : ℕ) (x : AcceptorWord) (old new : SeatState) → LookedAtAcceptor j x old new → NotesOf j old new
notes_of j x old new h =
    let node : new.node ≡ after_hearing old.node j x.promised x.accepted = ap (λ (s : SeatState). s.node) h.after in
    record {
      table = ap (λ (s : SeatState). s.table) h.after;
      me = ap (λ (t : NodeState). t.me) node ∙ me_hearing old.node j x.promised x.accepted;
      quorums = ap (λ (t : NodeState). t.quorums) node ∙ field_hearing (λ t. t.quorums) old.node j x.promised x.accepted (λ t vs l. refl) (λ t ps. refl);
      kept = ap (λ (t : NodeState). t.kept) node ∙ kept_hearing old.node j x.promised x.accepted (λ k. k);
      ballot = ap (λ (t : NodeState). t.ballot) node ∙ field_hearing (λ t. t.ballot) old.node j x.promised x.accepted (λ t vs l. refl) (λ t ps. refl);
      proposers = ap (λ (s : SeatState). s.proposers) h.after;
      others = λ i d. ap (λ (s : SeatState). get_or s.acceptors i no_acceptor) h.after ∙ get_or-set_other old.acceptors j i x no_acceptor d;
      learned = λ v e.
          ap (λ (t : NodeState). t.learned) node
          ∙ learned_shown (after_promise old.node j x.promised x.accepted) j x.accepted v (field_if (λ (t : NodeState). t.learned) (notes_promise old.node j x.promised x.accepted) old.node _ refl ∙ e);
    }
