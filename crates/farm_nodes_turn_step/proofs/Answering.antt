-- What is left to answer of a node, and what answering leaves of a seat.
use Rattle.std.proofs.Common.{◌≡◌, ◌≢◌, ◌⊎◌, inl, inr, ℕ, ◌<◌, ◌≤◌, ◌%◌, Bool, true, false, cond, ◌&&◌, leb, ltb, eqb, List, set, get_or, get_or-set_other, Option, Some, None, IfSome, option_map, refl, sym, ap, ◌∙◌, subst, arith, Result, Ok, Err, IfOk, OnErr, is_some}
use Rattle.std.proofs.lemmas.Bool.{and_parts, ltb-true, ltb-false, le-ltb, leb-true, leb-false, lt-leb, le-leb, eq-eqb, eqb-true}
use Rattle.paxos_core_world.specs.Ballot.{Owns}
use Rattle.paxos_core_world.specs.KeptPart.{KeptPart, vote, with_vote, with_promise, IsWithinPromise}
use Rattle.paxos_core_world.specs.Quorum.{Sizes}
use Rattle.paxos_core_world.specs.Settled.{is_given}
use Rattle.paxos_core_world.specs.declared.vote.Vote.{Vote}
use Rattle.paxos_core_node_steps.specs.Acceptor.{is_vote, promises, accepts, after_propose}
use Rattle.paxos_core_node_steps.specs.NodeState.{NodeState}
use Rattle.paxos_core_node_steps.specs.Would.{after_act, next_vote, kept_by_step}
use Rattle.paxos_core_node_steps.specs.declared.step.Act.TheVariants as core_act
use Rattle.paxos_core_node_steps.specs.declared.step.Step.{Step}
use Rattle.paxos_core_node_steps.specs.declared.step.Step.TheVariants as step
use Rattle.rooms_crash.specs.AcceptorWord.{AcceptorWord}
use Rattle.rooms_crash.specs.ProposerWord.{ProposerWord}
use Rattle.rooms_crash.specs.SeatAct.{SeatAct}
use Rattle.rooms_crash.specs.SeatAct.TheVariants as act
use Rattle.rooms_crash.specs.Did.{Did, LookedAtProposer, LookedAtAcceptor, NotesOf}
use Rattle.rooms_crash.specs.SeatState.{SeatState, no_proposer, proposer_of, promise_of, vote_of, vote_by}
use Rattle.rooms_crash.specs.Would.{would, act_of, proposed_by_step, Acted}
use Rattle.rooms_crash.proofs.Acts.{may_promise, vote_seen}
use Rattle.rooms_crash.proofs.Told.{notes_of}
use Rattle.farm_nodes_turn_order.specs.Meeting.{IsBounded}
use Rattle.rooms_crash.proofs.Keeping.{goes_acting, goes_looking_at_acceptor, goes_looking_at_proposer, goes_same, goes_through}
use Rattle.farm_nodes_turn_step.specs.Quiet.{IsQuiet, HasHeard}

-- ---- the same in plain words

pub map_none : {A B : Type 0} (f : A → B) (o : Option A) → option_map f o ≡ None → o ≡ None
map_none f None e = refl
map_none f (Some x) e = absurd (cc)

-- a vote that is not given now: it was given, it is none, or its ballot is below the promised one
abbrev pub IsPast : NodeState → ℕ → ℕ → Type 0
IsPast s b v = (s.kept.accepted ≡ Some (vote b v)) ⊎ (is_vote s.quorums.nodes (vote b v) ≡ false) ⊎ (b < s.kept.promised)

abbrev pub VotePast : NodeState → ℕ → Option ℕ → Type 0
VotePast s b p = (v : ℕ) → p ≡ Some v → IsPast s b v

same_parts : (a b c d : ℕ) → (eqb a b && eqb c d) ≡ true → (a ≡ b) × (c ≡ d)
same_parts a b c d e = let parts = and_parts (eqb a b) (eqb c d) e in (eqb-true a b parts.0, eqb-true c d parts.1)

given_is : (b v : ℕ) (o : Option Vote) → is_given (vote b v) o ≡ true → o ≡ Some (vote b v)
given_is b v None e = absurd (cc)
given_is b v (Some y) e =
    let same = same_parts y.ballot b y.value v e in
    ap (λ (c : ℕ). Some (vote c y.value)) same.0 ∙ ap (λ (u : ℕ). Some (vote b u)) same.1

is_given_self : (b v : ℕ) → is_given (vote b v) (Some (vote b v)) ≡ true
is_given_self b v = ap (λ (t : Bool). t && eqb v v) (eq-eqb b b refl) ∙ eq-eqb v v refl

refused_is : (n k b v : ℕ) (t : Bool) → is_vote n (vote b v) ≡ t → (t && leb k b) ≡ false → (is_vote n (vote b v) ≡ false) ⊎ (b < k)
refused_is n k b v true e f = inr (leb-false k b f)
refused_is n k b v false e f = inl e

past_is : (s : NodeState) (b v : ℕ) (t u : Bool) → is_given (vote b v) s.kept.accepted ≡ t → accepts s (vote b v) ≡ u
    → ◌≡◌ {A = Option Vote} (cond t None (cond u (Some (vote b v)) None)) None → IsPast s b v
past_is s b v true u e f none = inl (given_is b v s.kept.accepted e)
past_is s b v false true e f none = absurd (cc)
past_is s b v false false e f none = inr (refused_is s.quorums.nodes s.kept.promised b v (is_vote s.quorums.nodes (vote b v)) refl f)

told_past : (s : NodeState) (b : ℕ) (p : Option ℕ) → vote_by s b p ≡ None → VotePast s b p
told_past s b None e v is = absurd (cc)
told_past s b (Some u) e v is =
    let same : u ≡ v = cc in
    subst (λ (w : ℕ). IsPast s b w) same
    (past_is s b u (is_given (vote b u) s.kept.accepted) (accepts s (vote b u)) refl refl e)

and_false : (t : Bool) → (t && false) ≡ false
and_false true = refl
and_false false = refl

none_of : (s : NodeState) (b v : ℕ) (t : Bool) → is_given (vote b v) s.kept.accepted ≡ t → accepts s (vote b v) ≡ false
    → ◌≡◌ {A = Option Vote} (cond t None (cond (accepts s (vote b v)) (Some (vote b v)) None)) None
none_of s b v true e f = refl
none_of s b v false e f = ap (λ (u : Bool). cond u (Some (vote b v)) None) f

past_none : (s : NodeState) (b v : ℕ) → IsPast s b v → vote_by s b (Some v) ≡ None
past_none s b v past =
    elim past [
      | inl e ↦ ap (λ (t : Bool). cond t None (next_vote s (vote b v))) (ap (λ (o : Option Vote). is_given (vote b v) o) e ∙ is_given_self b v)
      | inr e ↦ elim e [
        | inl f ↦ none_of s b v (is_given (vote b v) s.kept.accepted) refl (ap (λ (t : Bool). t && leb s.kept.promised b) f)
        | inr f ↦ none_of s b v (is_given (vote b v) s.kept.accepted) refl (ap (λ (t : Bool). is_vote s.quorums.nodes (vote b v) && t) (lt-leb s.kept.promised b f) ∙ and_false (is_vote s.quorums.nodes (vote b v)))
      ]
    ]

past_told : (s : NodeState) (b : ℕ) (p : Option ℕ) → VotePast s b p → vote_by s b p ≡ None
past_told s b None past = refl
past_told s b (Some v) past = past_none s b v (past v refl)

-- no ballot above the promised one
promise_is : (k b : ℕ) (t : Bool) → ltb k b ≡ t → ◌≡◌ {A = Option ℕ} (cond t (Some b) None) None → b ≤ k
promise_is k b true e none = absurd (cc)
promise_is k b false e none = ltb-false k b e

-- nothing is left of node j
pub record IsLeft (j : ℕ) (s : SeatState) : Type 0 where
  pub vote : VotePast s.node (proposer_of s j).started (proposer_of s j).proposed
  pub ballot : (proposer_of s j).started ≤ s.node.kept.promised

pub left_quiet : (j : ℕ) (s : SeatState) → IsLeft j s → IsQuiet j s
left_quiet j s left = record {
  accept = ap (λ (o : Option Vote). option_map (λ (x : Vote). step.Accept x.ballot x.value) o) (past_told s.node (proposer_of s j).started (proposer_of s j).proposed left.vote);
  promise = ap (λ (t : Bool). option_map step.Promise (cond t (Some (proposer_of s j).started) None)) (le-ltb s.node.kept.promised (proposer_of s j).started left.ballot);
}

pub vote_left : (j : ℕ) (s : SeatState) → would s (act.Accept j) ≡ None → VotePast s.node (proposer_of s j).started (proposer_of s j).proposed
vote_left j s e = told_past s.node (proposer_of s j).started (proposer_of s j).proposed (map_none (λ (x : Vote). step.Accept x.ballot x.value) (vote_of s j) e)

ballot_left : (j : ℕ) (s : SeatState) → would s (act.Promise j) ≡ None → (proposer_of s j).started ≤ s.node.kept.promised
ballot_left j s e = promise_is s.node.kept.promised (proposer_of s j).started (ltb s.node.kept.promised (proposer_of s j).started) refl (map_none step.Promise (promise_of s j) e)

pub quiet_left : (j : ℕ) (s : SeatState) → IsQuiet j s → IsLeft j s
quiet_left j s quiet = record { vote = vote_left j s quiet.accept; ballot = ballot_left j s quiet.promise }

-- it speaks of what is kept, of the number of nodes and of what was seen of j
pub quiet_same : (j : ℕ) (s t : SeatState) → t.node.kept ≡ s.node.kept → t.node.quorums.nodes ≡ s.node.quorums.nodes → proposer_of t j ≡ proposer_of s j → IsQuiet j s → IsQuiet j t
quiet_same j s t kept count word quiet =
    let left = quiet_left j s quiet in
    left_quiet j t
    record {
      vote = subst (λ (w : ProposerWord). VotePast t.node w.started w.proposed) (sym word)
          (subst (λ (k : KeptPart). (v : ℕ) → (proposer_of s j).proposed ≡ Some v → (k.accepted ≡ Some (vote (proposer_of s j).started v)) ⊎ (is_vote t.node.quorums.nodes (vote (proposer_of s j).started v) ≡ false) ⊎ ((proposer_of s j).started < k.promised)) (sym kept)
          (subst (λ (n : ℕ). (v : ℕ) → (proposer_of s j).proposed ≡ Some v → (s.node.kept.accepted ≡ Some (vote (proposer_of s j).started v)) ⊎ (is_vote n (vote (proposer_of s j).started v) ≡ false) ⊎ ((proposer_of s j).started < s.node.kept.promised)) (sym count) left.vote));
      ballot = subst (λ (w : ProposerWord). w.started ≤ t.node.kept.promised) (sym word)
          (subst (λ (k : KeptPart). (proposer_of s j).started ≤ k.promised) (sym kept) left.ballot);
    }

-- ---- what an answer is

-- the seat voted for what node j was seen to have proposed
pub record HasVoted (j : ℕ) (s t : SeatState) : Type 0 where
  pub given : Vote
  pub kept : t.node.kept ≡ with_vote given s.node.kept
  pub ballot : given.ballot ≡ (proposer_of s j).started
  pub value : (proposer_of s j).proposed ≡ Some given.value
  pub above : s.node.kept.promised ≤ given.ballot
  pub way : t.node.ballot ≡ s.node.ballot

-- the seat promised the ballot that node j was seen to have started
pub record HasPromised (j : ℕ) (s t : SeatState) : Type 0 where
  pub kept : t.node.kept ≡ with_promise (proposer_of s j).started s.node.kept
  pub above : s.node.kept.promised < (proposer_of s j).started
  pub way : t.node.ballot ≡ s.node.ballot

ballot_if : (t : Bool) (s u : NodeState) → u.ballot ≡ s.ballot → (cond t u s).ballot ≡ s.ballot
ballot_if true s u e = e
ballot_if false s u e = refl

pub did_of : (a : SeatAct) (s t : SeatState) (x : Step) → Acted a s t → would s a ≡ Some x → Did (act_of x) (proposed_by_step x s.proposed) s t
did_of a s t x acted e = subst (λ (o : Option Step). IfSome o (λ y. Did (act_of y) (proposed_by_step y s.proposed) s t)) e acted.stepped

voted_if : (j : ℕ) (s t : SeatState) (o : Option Vote) → Acted (act.Accept j) s t → o ≡ vote_of s j → (would s (act.Accept j) ≡ None) ⊎ HasVoted j s t
voted_if j s t None acted e = inl (ap (λ (o : Option Vote). option_map (λ (x : Vote). step.Accept x.ballot x.value) o) (sym e))
voted_if j s t (Some x) acted e =
    let told : would s (act.Accept j) ≡ Some (step.Accept x.ballot x.value) = ap (λ (o : Option Vote). option_map (λ (x : Vote). step.Accept x.ballot x.value) o) (sym e) in
    let seen = vote_seen s.node (proposer_of s j).started (proposer_of s j).proposed x e in
    let did = did_of (act.Accept j) s t (step.Accept x.ballot x.value) acted told in
    inr record {
      given = x;
      kept = acted.kept ∙ ap (λ (o : Option Step). kept_by_step o s.node.kept) told;
      ballot = seen.2;
      value = seen.1;
      above = leb-true s.node.kept.promised x.ballot (and_parts (is_vote s.node.quorums.nodes x) (leb s.node.kept.promised x.ballot) seen.0).1;
      way = ap (λ (u : SeatState). u.node.ballot) did.after ∙ ballot_if (accepts s.node x) s.node (record s.node { kept = with_vote x s.node.kept }) refl;
    }

pub voted_or : (j : ℕ) (s t : SeatState) → Acted (act.Accept j) s t → (would s (act.Accept j) ≡ None) ⊎ HasVoted j s t
voted_or j s t acted = voted_if j s t (vote_of s j) acted refl

promised_if : (j : ℕ) (s t : SeatState) (u : Bool) → ltb s.node.kept.promised (proposer_of s j).started ≡ u → Acted (act.Promise j) s t → (would s (act.Promise j) ≡ None) ⊎ HasPromised j s t
promised_if j s t false e acted = inl (ap (λ (u : Bool). option_map step.Promise (cond u (Some (proposer_of s j).started) None)) e)
promised_if j s t true e acted =
    let b : ℕ = (proposer_of s j).started in
    let told : would s (act.Promise j) ≡ Some (step.Promise (proposer_of s j).started) = ap (λ (u : Bool). option_map step.Promise (cond u (Some (proposer_of s j).started) None)) e in
    let did = did_of (act.Promise j) s t (step.Promise (proposer_of s j).started) acted told in
    inr record {
      kept = acted.kept ∙ ap (λ (o : Option Step). kept_by_step o s.node.kept) told;
      above = ltb-true s.node.kept.promised (proposer_of s j).started e;
      way = ap (λ (u : SeatState). u.node.ballot) did.after ∙ ballot_if (promises s.node (proposer_of s j).started) s.node (record s.node { kept = with_promise (proposer_of s j).started s.node.kept }) refl;
    }

pub promised_or : (j : ℕ) (s t : SeatState) → Acted (act.Promise j) s t → (would s (act.Promise j) ≡ None) ⊎ HasPromised j s t
promised_or j s t acted = promised_if j s t (ltb s.node.kept.promised (proposer_of s j).started) refl acted

pub word_same : (j : ℕ) (s t : SeatState) → t.proposers ≡ s.proposers → proposer_of t j ≡ proposer_of s j
word_same j s t e = ap (λ (xs : List ProposerWord). get_or xs j no_proposer) e

-- ---- what it leaves

-- after a vote for it nothing is left of node j
pub voted_quiet : (j : ℕ) (s t : SeatState) → Acted (act.Accept j) s t → HasVoted j s t → IsQuiet j t
voted_quiet j s t acted done =
    let word : proposer_of t j ≡ proposer_of s j = word_same j s t acted.proposers in
    left_quiet j t
    record {
      vote = λ v is.
          let b : (proposer_of t j).started ≡ done.given.ballot = ap (λ (w : ProposerWord). w.started) word ∙ sym done.ballot in
          let both : Some done.given.value ≡ Some v = sym done.value ∙ (sym (ap (λ (w : ProposerWord). w.proposed) word) ∙ is) in
          let value : done.given.value ≡ v = cc in
          inl (ap (λ (k : KeptPart). k.accepted) done.kept ∙ (ap (λ (u : ℕ). Some (vote done.given.ballot u)) value ∙ ap (λ (c : ℕ). Some (vote c v)) (sym b)));
      ballot = subst (λ (k : KeptPart). (proposer_of t j).started ≤ k.promised) (sym done.kept)
          (subst (λ (w : ProposerWord). w.started ≤ done.given.ballot) (sym word) (omega (arith, done.ballot)));
    }

-- after a promise, where nothing was left to accept
pub promised_quiet : (j : ℕ) (s t : SeatState) → Acted (act.Promise j) s t → would s (act.Accept j) ≡ None → HasPromised j s t → IsQuiet j t
promised_quiet j s t acted none done =
    let word : proposer_of t j ≡ proposer_of s j = word_same j s t acted.proposers in
    let past = vote_left j s none in
    left_quiet j t
    record {
      vote = λ v is.
          let b : (proposer_of t j).started ≡ (proposer_of s j).started = ap (λ (w : ProposerWord). w.started) word in
          let here : (proposer_of s j).proposed ≡ Some v = sym (ap (λ (w : ProposerWord). w.proposed) word) ∙ is in
          subst (λ (c : ℕ). IsPast t.node c v) (sym b)
          (elim (past v here) [
            | inl e ↦ inl (ap (λ (k : KeptPart). k.accepted) done.kept ∙ e)
            | inr e ↦ elim e [
              | inl f ↦ inr (inl (ap (λ (q : Sizes). is_vote q.nodes (vote (proposer_of s j).started v)) acted.quorums ∙ f))
              | inr f ↦ absurd (omega (arith, f, done.above))
            ]
          ]);
      ballot = subst (λ (k : KeptPart). (proposer_of t j).started ≤ k.promised) (sym done.kept)
          (subst (λ (w : ProposerWord). w.started ≤ (proposer_of s j).started) (sym word) (omega arith));
    }

-- where neither was left
pub idle_quiet : (j : ℕ) (s t : SeatState) → Acted (act.Promise j) s t → would s (act.Accept j) ≡ None → would s (act.Promise j) ≡ None → IsQuiet j t
idle_quiet j s t acted none still = subst (λ (u : SeatState). IsQuiet j u) (sym (acted.idle still)) record { accept = none; promise = still }

-- what was quiet stays so: over a promise,
pub quiet_promised : (i j : ℕ) (s t : SeatState) → Acted (act.Promise j) s t → HasPromised j s t → IsQuiet i s → IsQuiet i t
quiet_promised i j s t acted done quiet =
    let left = quiet_left i s quiet in
    let word : proposer_of t i ≡ proposer_of s i = word_same i s t acted.proposers in
    left_quiet i t
    record {
      vote = λ v is.
          let b : (proposer_of t i).started ≡ (proposer_of s i).started = ap (λ (w : ProposerWord). w.started) word in
          let here : (proposer_of s i).proposed ≡ Some v = sym (ap (λ (w : ProposerWord). w.proposed) word) ∙ is in
          subst (λ (c : ℕ). IsPast t.node c v) (sym b)
          (elim (left.vote v here) [
            | inl e ↦ inl (ap (λ (k : KeptPart). k.accepted) done.kept ∙ e)
            | inr e ↦ elim e [
              | inl f ↦ inr (inl (ap (λ (q : Sizes). is_vote q.nodes (vote (proposer_of s i).started v)) acted.quorums ∙ f))
              | inr f ↦ inr (inr (subst (λ (k : KeptPart). (proposer_of s i).started < k.promised) (sym done.kept) (omega (arith, f, done.above))))
            ]
          ]);
      ballot = subst (λ (k : KeptPart). (proposer_of t i).started ≤ k.promised) (sym done.kept)
          (subst (λ (w : ProposerWord). w.started ≤ (proposer_of s j).started) (sym word) (omega (arith, left.ballot, done.above)));
    }

apart : (n i j b : ℕ) → i ≢ j → 1 ≤ b → (b ≡ 0) ⊎ Owns n i b → (b ≡ 0) ⊎ Owns n j b → ⊥
apart n i j b other low own_i own_j =
    elim own_i [
      | inl e ↦ absurd (omega arith)
      | inr p ↦ elim own_j [
        | inl e ↦ absurd (omega arith)
        | inr q ↦ other (sym p.turn ∙ q.turn)
      ]
    ]

voted_low : (k : KeptPart) (x : Vote) → IsWithinPromise k.promised k.accepted → k.accepted ≡ Some x → 1 ≤ x.ballot
voted_low k x within e = (subst (λ (o : Option Vote). IfSome o (λ y. (1 ≤ y.ballot) × (y.ballot ≤ k.promised))) e within).0

-- and over a vote for another node's proposal
pub quiet_voted : (i j : ℕ) (s t : SeatState) → IsBounded s → i ≢ j → i < s.node.quorums.nodes → j < s.node.quorums.nodes → Acted (act.Accept j) s t → HasVoted j s t → IsQuiet i s → IsQuiet i t
quiet_voted i j s t bounds other in_i in_j acted done quiet =
    let left = quiet_left i s quiet in
    let word : proposer_of t i ≡ proposer_of s i = word_same i s t acted.proposers in
    let promised : t.node.kept.promised ≡ done.given.ballot = ap (λ (k : KeptPart). k.promised) done.kept in
    left_quiet i t
    record {
      vote = λ v is.
          let b : (proposer_of t i).started ≡ (proposer_of s i).started = ap (λ (w : ProposerWord). w.started) word in
          let here : (proposer_of s i).proposed ≡ Some v = sym (ap (λ (w : ProposerWord). w.proposed) word) ∙ is in
          subst (λ (c : ℕ). IsPast t.node c v) (sym b)
          (elim (left.vote v here) [
            | inl e ↦
                let low : 1 ≤ (proposer_of s i).started = voted_low s.node.kept (vote (proposer_of s i).started v) bounds.within e in
                let differ : (proposer_of s i).started ≢ done.given.ballot =
                (λ (same : (proposer_of s i).started ≡ done.given.ballot).
                apart s.node.quorums.nodes i j (proposer_of s i).started other low (bounds.owned i in_i)
                (subst (λ (c : ℕ). (c ≡ 0) ⊎ Owns s.node.quorums.nodes j c) (sym (same ∙ done.ballot)) (bounds.owned j in_j))) in
                inr (inr (omega (arith, promised, left.ballot, done.above, differ)))
            | inr e ↦ elim e [
              | inl f ↦ inr (inl (ap (λ (q : Sizes). is_vote q.nodes (vote (proposer_of s i).started v)) acted.quorums ∙ f))
              | inr f ↦ inr (inr (omega (arith, promised, f, done.above)))
            ]
          ]);
      ballot = subst (λ (w : ProposerWord). w.started ≤ t.node.kept.promised) (sym word) (omega (arith, promised, left.ballot, done.above));
    }

-- ---- what hearing leaves

pub heard_same : (s : SeatState) → HasHeard s s
heard_same s = record { table = refl; me = refl; quorums = refl; offered = refl; started = refl; ballot = refl; promised = omega arith; learned = λ v e. e; run = goes_same s }

pub heard_through : (a b c : SeatState) → HasHeard a b → HasHeard b c → HasHeard a c
heard_through a b c h k = record {
  table = k.table ∙ h.table;
  me = k.me ∙ h.me;
  quorums = k.quorums ∙ h.quorums;
  offered = k.offered ∙ h.offered;
  started = k.started ∙ h.started;
  ballot = k.ballot ∙ h.ballot;
  promised = omega (arith, h.promised, k.promised);
  learned = λ v e. k.learned v (h.learned v e);
  run = goes_through a b c h.run k.run;
}

pub heard_voted : (j : ℕ) (s t : SeatState) → Acted (act.Accept j) s t → HasHeard s t
heard_voted j s t acted =
    elim (voted_or j s t acted) [
      | inl none ↦ subst (λ (u : SeatState). HasHeard s u) (sym (acted.idle none)) (heard_same s)
      | inr done ↦ record {
        table = acted.table;
        me = acted.me;
        quorums = acted.quorums;
        offered = ap (λ (k : KeptPart). k.offered) done.kept;
        started = ap (λ (k : KeptPart). k.started) done.kept;
        ballot = done.way;
        promised = subst (λ (k : KeptPart). s.node.kept.promised ≤ k.promised) (sym done.kept) done.above;
        learned = λ v e. acted.learned ∙ e;
        run = goes_acting (act.Accept j) s t acted tt;
      }
    ]

pub heard_promised : (j : ℕ) (s t : SeatState) → Acted (act.Promise j) s t → HasHeard s t
heard_promised j s t acted =
    elim (promised_or j s t acted) [
      | inl none ↦ subst (λ (u : SeatState). HasHeard s u) (sym (acted.idle none)) (heard_same s)
      | inr done ↦ record {
        table = acted.table;
        me = acted.me;
        quorums = acted.quorums;
        offered = ap (λ (k : KeptPart). k.offered) done.kept;
        started = ap (λ (k : KeptPart). k.started) done.kept;
        ballot = done.way;
        promised = subst (λ (k : KeptPart). s.node.kept.promised ≤ k.promised) (sym done.kept) (omega (arith, done.above));
        learned = λ v e. acted.learned ∙ e;
        run = goes_acting (act.Promise j) s t acted tt;
      }
    ]

-- asked to promise, whether its record stands or not
pub heard_promising : {E : Type 0} (j : ℕ) (s t : SeatState) (r : Result Bool E)
    → IfOk r (λ (moved : Bool). (moved ≡ is_some (would s (act.Promise j))) × Acted (act.Promise j) s t) → OnErr r (t ≡ s) → HasHeard s t
heard_promising j s t (Ok moved) ok err = heard_promised j s t ok.1
heard_promising j s t (Err e) ok err = subst (λ (u : SeatState). HasHeard s u) (sym err) (heard_same s)

pub heard_proposer : (j : ℕ) (x : ProposerWord) (s t : SeatState) → LookedAtProposer j x s t → HasHeard s t
heard_proposer j x s t look =
    let after = look.after in
    record {
      table = ap (λ (u : SeatState). u.table) after;
      me = ap (λ (u : SeatState). u.node.me) after;
      quorums = ap (λ (u : SeatState). u.node.quorums) after;
      offered = ap (λ (u : SeatState). u.node.kept.offered) after;
      started = ap (λ (u : SeatState). u.node.kept.started) after;
      ballot = ap (λ (u : SeatState). u.node.ballot) after;
      promised = subst (λ (u : SeatState). s.node.kept.promised ≤ u.node.kept.promised) (sym after) (omega arith);
      learned = λ v e. ap (λ (u : SeatState). u.node.learned) after ∙ e;
      run = goes_looking_at_proposer j x s t look;
    }

pub quiet_proposer : (i j : ℕ) (x : ProposerWord) (s t : SeatState) → i ≢ j → LookedAtProposer j x s t → IsQuiet i s → IsQuiet i t
quiet_proposer i j x s t other look quiet =
    quiet_same i s t (ap (λ (u : SeatState). u.node.kept) look.after) (ap (λ (u : SeatState). u.node.quorums.nodes) look.after)
    (ap (λ (u : SeatState). proposer_of u i) look.after ∙ get_or-set_other s.proposers j i x no_proposer other) quiet

pub heard_acceptor : (j : ℕ) (x : AcceptorWord) (s t : SeatState) → LookedAtAcceptor j x s t → HasHeard s t
heard_acceptor j x s t look =
    let notes = notes_of j x s t look in
    record {
      table = notes.table;
      me = notes.me;
      quorums = notes.quorums;
      offered = ap (λ (k : KeptPart). k.offered) notes.kept;
      started = ap (λ (k : KeptPart). k.started) notes.kept;
      ballot = notes.ballot;
      promised = subst (λ (k : KeptPart). s.node.kept.promised ≤ k.promised) (sym notes.kept) (omega arith);
      learned = notes.learned;
      run = goes_looking_at_acceptor j x s t look;
    }

pub quiet_acceptor : (i j : ℕ) (x : AcceptorWord) (s t : SeatState) → LookedAtAcceptor j x s t → IsQuiet i s → IsQuiet i t
quiet_acceptor i j x s t look quiet =
    let notes = notes_of j x s t look in
    quiet_same i s t notes.kept (ap (λ (q : Sizes). q.nodes) notes.quorums) (word_same i s t notes.proposers) quiet
