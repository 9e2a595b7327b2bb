-- The opening world of settled kept parts has the invariant.
use Rattle.std.proofs.Common.{◌≡◌, ℕ, zero, suc, ◌<◌, ◌≤◌, ◌%◌, ◌⊎◌, Bool, true, false, not, IsTrue, ◌++◌, Option, Some, None, inl, inr, refl, sym, ap, subst, ◌∙◌, arith, eqb, leb-true, ltb-true, eq-eqb, eqb-true, nat_lt}
use Rattle.std.proofs.lemmas.Bool.{cases_eq, and_parts, and_from}
use Rattle.paxos_core_world.specs.Ballot.{Owns}
use Rattle.paxos_core_world.specs.KeptPart.{KeptPart, vote}
use Rattle.paxos_core_world.specs.Quorum.{Sizes, AreQuorums, IsPromiseQuorum}
use Rattle.paxos_core_world.specs.Settled.{Settled, has_promised, has_passed, same_vote, is_given}
use Rattle.paxos_core_world.specs.Step.{HasOffered}
use Rattle.paxos_core_world.specs.World.{Has, opening, shown, shown_start, shown_vote}
use Rattle.paxos_core_world.specs.declared.msg.Msg.{Msg}
use Rattle.paxos_core_world.specs.declared.msg.Msg.TheVariants.{Prepare, Promise, Propose, Accepted}
use Rattle.paxos_core_world.specs.declared.vote.Vote.{Vote}
use Rattle.paxos_core_world.proofs.Sent.{has-append, has-append_left, has-append_right}
use Rattle.paxos_core_invariant.specs.Invariant.{Invariant, VoteKept, Backed, IsPassed}
use Rattle.paxos_core_invariant.proofs.Keeps.{within_at}
use Rattle.paxos_core_invariant.proofs.Quorums.{find_below}

-- ---- the messages that kept parts show

-- node i's kept part shows this message: it is the Prepare of its started ballot, or the Accepted of its vote
abbrev pub ShownBy : ℕ → KeptPart → Msg → Type 0
ShownBy i k m = ((m ≡ Prepare k.started) × (1 ≤ k.started)) ⊎ ((x : Vote) × (k.accepted ≡ Some x) × (m ≡ Accepted i x.ballot x.value))

shown_start_was : (s : ℕ) (m : Msg) → Has m (shown_start s) → (m ≡ Prepare s) × (1 ≤ s)
shown_start_was zero m h = absurd h
shown_start_was (suc s) m (inl e) = (e, omega arith)
shown_start_was (suc s) m (inr h) = absurd h

shown_vote_was : (i : ℕ) (o : Option Vote) (m : Msg) → Has m (shown_vote i o) → (x : Vote) × (o ≡ Some x) × (m ≡ Accepted i x.ballot x.value)
shown_vote_was i None m h = absurd h
shown_vote_was i (Some x) m (inl e) = (x, refl, e)
shown_vote_was i (Some x) m (inr h) = absurd h

pub shown_was : (n : ℕ) (nodes : ℕ → KeptPart) (m : Msg) → Has m (shown n nodes) → (i : ℕ) × (i < n) × ShownBy i (nodes i) m
shown_was zero nodes m h = absurd h
shown_was (suc n) nodes m h =
    elim (has-append m (shown_start (nodes n).started ++ shown_vote n (nodes n).accepted) (shown n nodes) h) [
      | inl here ↦ elim (has-append m (shown_start (nodes n).started) (shown_vote n (nodes n).accepted) here) [
        | inl start ↦ (n, omega arith, inl (shown_start_was (nodes n).started m start))
        | inr voted ↦ (n, omega arith, inr (shown_vote_was n (nodes n).accepted m voted))
      ]
      | inr there ↦ wider (shown_was n nodes m there)
    ]
  where
    wider : (i : ℕ) × (i < n) × ShownBy i (nodes i) m → (i : ℕ) × (i < suc n) × ShownBy i (nodes i) m
    wider (i, below, by) = (i, omega arith, by)

-- only votes and prepared ballots are shown
pub vote_shown : (n : ℕ) (nodes : ℕ → KeptPart) (a b v : ℕ) → Has (Accepted a b v) (shown n nodes) → (a < n) × ((nodes a).accepted ≡ Some (vote b v))
vote_shown n nodes a b v h = from (shown_was n nodes (Accepted a b v) h)
  where
    from : (i : ℕ) × (i < n) × ShownBy i (nodes i) (Accepted a b v) → (a < n) × ((nodes a).accepted ≡ Some (vote b v))
    from (i, below, inl start) = absurd (let e = start.0 in cc)
    from (i, below, inr voted) =
        let node : i ≡ a = (let e = voted.2 in cc) in
        let ballot : b ≡ voted.0.ballot = (let e = voted.2 in cc) in
        let value : v ≡ voted.0.value = (let e = voted.2 in cc) in
        let held : (nodes a).accepted ≡ Some voted.0 = subst (λ (j : ℕ). (nodes j).accepted ≡ Some voted.0) node voted.1 in (
          omega arith,
          subst (λ (c : ℕ). (nodes a).accepted ≡ Some (vote c v)) (sym ballot)
              (subst (λ (u : ℕ). (nodes a).accepted ≡ Some (vote voted.0.ballot u)) (sym value) held),
        )

prepare_shown : (n : ℕ) (nodes : ℕ → KeptPart) (b : ℕ) → Has (Prepare b) (shown n nodes) → (i : ℕ) × (i < n) × (b ≡ (nodes i).started) × (1 ≤ b)
prepare_shown n nodes b h = from (shown_was n nodes (Prepare b) h)
  where
    from : (i : ℕ) × (i < n) × ShownBy i (nodes i) (Prepare b) → (i : ℕ) × (i < n) × (b ≡ (nodes i).started) × (1 ≤ b)
    from (i, below, inl start) = let e : b ≡ (nodes i).started = (let f = start.0 in cc) in (i, below, e, omega arith)
    from (i, below, inr voted) = absurd (let e = voted.2 in cc)

no_promise_shown : (n : ℕ) (nodes : ℕ → KeptPart) (a b : ℕ) (report : Option Vote) → ¬ Has (Promise a b report) (shown n nodes)
no_promise_shown n nodes a b report h = from (shown_was n nodes (Promise a b report) h)
  where
    from : (i : ℕ) × (i < n) × ShownBy i (nodes i) (Promise a b report) → ⊥
    from (i, below, inl start) = let e = start.0 in cc
    from (i, below, inr voted) = let e = voted.2 in cc

no_proposal_shown : (n : ℕ) (nodes : ℕ → KeptPart) (b v : ℕ) → ¬ Has (Propose b v) (shown n nodes)
no_proposal_shown n nodes b v h = from (shown_was n nodes (Propose b v) h)
  where
    from : (i : ℕ) × (i < n) × ShownBy i (nodes i) (Propose b v) → ⊥
    from (i, below, inl start) = let e = start.0 in cc
    from (i, below, inr voted) = let e = voted.2 in cc

pub shows_vote : (n : ℕ) (nodes : ℕ → KeptPart) (a : ℕ) (x : Vote) → a < n → (nodes a).accepted ≡ Some x → Has (Accepted a x.ballot x.value) (shown n nodes)
shows_vote zero nodes a x below e = absurd (omega arith)
shows_vote (suc n) nodes a x below e = elim (cases_eq a n) [
  | inl here ↦ has-append_left _ (shown_start (nodes n).started ++ shown_vote n (nodes n).accepted) (shown n nodes)
      (has-append_right _ (shown_start (nodes n).started) (shown_vote n (nodes n).accepted) (voted here))
  | inr there ↦ has-append_right _ (shown_start (nodes n).started ++ shown_vote n (nodes n).accepted) (shown n nodes)
      (shows_vote n nodes a x (omega arith) e)
]
  where
    voted : a ≡ n → Has (Accepted a x.ballot x.value) (shown_vote n (nodes n).accepted)
    voted same =
        let held : (nodes n).accepted ≡ Some x = subst (λ (j : ℕ). (nodes j).accepted ≡ Some x) same e in
        subst (λ (o : Option Vote). Has (Accepted a x.ballot x.value) (shown_vote n o)) (sym held)
        (inl (ap (λ (j : ℕ). Accepted j x.ballot x.value) same))

has_start : (b : ℕ) → 1 ≤ b → Has (Prepare b) (shown_start b)
has_start zero first = absurd (omega arith)
has_start (suc b) first = inl refl

pub shows_start : (n : ℕ) (nodes : ℕ → KeptPart) (i : ℕ) → i < n → 1 ≤ (nodes i).started → Has (Prepare (nodes i).started) (shown n nodes)
shows_start zero nodes i below first = absurd (omega arith)
shows_start (suc n) nodes i below first = elim (cases_eq i n) [
  | inl here ↦ has-append_left _ (shown_start (nodes n).started ++ shown_vote n (nodes n).accepted) (shown n nodes)
      (has-append_left _ (shown_start (nodes n).started) (shown_vote n (nodes n).accepted)
      (subst (λ (j : ℕ). Has (Prepare (nodes i).started) (shown_start (nodes j).started)) here (has_start (nodes i).started first)))
  | inr there ↦ has-append_right _ (shown_start (nodes n).started ++ shown_vote n (nodes n).accepted) (shown n nodes)
      (shows_start n nodes i (omega arith) first)
]

-- ---- what settled votes rule out

-- a node that passes the test of a vote that can no more be given has promised above its ballot, and does not hold it
passed_above : (y : Vote) (k : KeptPart) → IsTrue (has_passed y k) → y.ballot < k.promised
passed_above y k h = ltb-true y.ballot k.promised (and_parts (nat_lt y.ballot k.promised) (not (is_given y k.accepted)) h).0

given_self : (y : Vote) → same_vote y y ≡ true
given_self y = and_from (eqb y.ballot y.ballot) (eqb y.value y.value) (eq-eqb y.ballot y.ballot refl) (eq-eqb y.value y.value refl)

passed_silent : (y : Vote) (k : KeptPart) → IsTrue (has_passed y k) → k.accepted ≡ Some y → ⊥
passed_silent y k h e =
    let free : not (is_given y k.accepted) ≡ true = (and_parts (nat_lt y.ballot k.promised) (not (is_given y k.accepted)) h).1 in
    let given : is_given y k.accepted ≡ true = subst (λ (o : Option Vote). is_given y o ≡ true) (sym e) (given_self y) in
    let clash : not true ≡ true = subst (λ (t : Bool). not t ≡ true) given free in
    let never : false ≡ true = clash in cc

-- whether a kept part holds the vote (c, u)
is_held : ℕ → ℕ → KeptPart → Bool
is_held c u k = is_given (vote c u) k.accepted

given_is : (c u : ℕ) (o : Option Vote) → is_given (vote c u) o ≡ true → o ≡ Some (vote c u)
given_is c u None h = let e : false ≡ true = h in cc
given_is c u (Some y) h =
    let both = and_parts (eqb y.ballot c) (eqb y.value u) h in
    let ballot : y.ballot ≡ c = eqb-true y.ballot c both.0 in
    let value : y.value ≡ u = eqb-true y.value u both.1 in
    subst (λ (d : ℕ). Some y ≡ Some (vote d u)) ballot (subst (λ (t : ℕ). Some y ≡ Some (vote y.ballot t)) value refl)

not_given_is : (c u : ℕ) (o : Option Vote) → is_given (vote c u) o ≡ false → o ≡ Some (vote c u) → ⊥
not_given_is c u o h e =
    let given : is_given (vote c u) o ≡ true = subst (λ (p : Option Vote). is_given (vote c u) p ≡ true) (sym e) (given_self (vote c u)) in cc

-- of two settled votes the lower one of another value can no more be chosen; and one that nobody holds cannot either, since a promise quorum has promised above it
opening_passed : (q : Sizes) (nodes : ℕ → KeptPart) → Settled q nodes → (a b v c u : ℕ) → a < q.nodes → (nodes a).accepted ≡ Some (vote b v)
    → c < b → (u ≡ v → ⊥) → IsPassed q (opening q.nodes nodes) c u
opening_passed q nodes s a b v c u below e low other = elim (find_below q.nodes (λ j. is_given (vote c u) (nodes j).accepted)) [
  | inl held ↦ by_pair held.0 held.1 (given_is c u (nodes held.0).accepted held.2)
  | inr none ↦ by_promises none
]
  where
    by_pair : (j : ℕ) → j < q.nodes → (nodes j).accepted ≡ Some (vote c u) → IsPassed q (opening q.nodes nodes) c u
    by_pair j member f =
        record {
          members = λ i. has_passed (vote c u) (nodes i);
          quorum = (s.pair a j (vote b v) (vote c u) below member e f).lower low other;
          above = λ i _ passed. passed_above (vote c u) (nodes i) passed;
          silent = λ i _ passed sent. passed_silent (vote c u) (nodes i) passed (vote_shown q.nodes nodes i c u sent).1;
        }

    by_promises : ((j : ℕ) → j < q.nodes → is_given (vote c u) (nodes j).accepted ≡ false) → IsPassed q (opening q.nodes nodes) c u
    by_promises none =
        record {
          members = λ i. has_promised b (nodes i);
          quorum = (s.vote a (vote b v) below e).quorum;
          above = λ i _ promised. (let high : b ≤ (nodes i).promised = leb-true b (nodes i).promised promised in omega arith);
          silent = λ i node _ sent. not_given_is c u (nodes i).accepted (none i node) (vote_shown q.nodes nodes i c u sent).1;
        }

-- ---- the invariant

backed_shown : (n : ℕ) (nodes : ℕ → KeptPart) (b v : ℕ) → Backed (opening n nodes) b v → (a : ℕ) × (a < n) × ((nodes a).accepted ≡ Some (vote b v))
backed_shown n nodes b v (inl proposal) = absurd (no_proposal_shown n nodes b v proposal)
backed_shown n nodes b v (inr voted) = let at = vote_shown n nodes voted.0 b v voted.1 in (voted.0, at.0, at.1)

opening_vote : (q : Sizes) (nodes : ℕ → KeptPart) → Settled q nodes → (a b v : ℕ) → Has (Accepted a b v) (shown q.nodes nodes) → VoteKept q.nodes (opening q.nodes nodes) a b v
opening_vote q nodes s a b v h =
    let at = vote_shown q.nodes nodes a b v h in
    record {
      node = at.0;
      bound = (within_at (nodes a).promised (nodes a).accepted (vote b v) at.1 (s.within a at.0)).1;
      kept = (vote b v, at.1, omega arith);
      origin = inr (λ never. never);
    }

opening_prepared : (q : Sizes) (nodes : ℕ → KeptPart) → Settled q nodes → (i b : ℕ) → i < q.nodes → Has (Prepare b) (shown q.nodes nodes) → Owns q.nodes i b → b ≤ (nodes i).started
opening_prepared q nodes s i b below h own = from (prepare_shown q.nodes nodes b h)
  where
    from : (j : ℕ) × (j < q.nodes) × (b ≡ (nodes j).started) × (1 ≤ b) → b ≤ (nodes i).started
    from (j, member, is, first) = elim (s.ballots j member).own [
      | inl none ↦ absurd (omega arith)
      | inr owned ↦ (
          let turn : b % q.nodes ≡ j = subst (λ (c : ℕ). c % q.nodes ≡ j) (sym is) owned.turn in
          let same : j ≡ i = sym turn ∙ own.turn in
          let at : b ≡ (nodes i).started = subst (λ (k : ℕ). b ≡ (nodes k).started) same is in
          omega arith)
    ]

opening_voted : (q : Sizes) (nodes : ℕ → KeptPart) → Settled q nodes → (i a b v : ℕ) → i < q.nodes → Has (Accepted a b v) (shown q.nodes nodes) → Owns q.nodes i b → b ≤ (nodes i).started
opening_voted q nodes s i a b v below h own =
    let at = vote_shown q.nodes nodes a b v h in (s.ballots i below).accepted a (vote b v) at.0 at.1 own

opening_one_vote : (q : Sizes) (nodes : ℕ → KeptPart) → Settled q nodes → (a c b v u : ℕ) → Has (Accepted a b v) (shown q.nodes nodes) → Has (Accepted c b u) (shown q.nodes nodes) → v ≡ u
opening_one_vote q nodes s a c b v u h k =
    let at = vote_shown q.nodes nodes a b v h in
    let there = vote_shown q.nodes nodes c b u k in
    (s.pair a c (vote b v) (vote b u) at.0 there.0 at.1 there.1).same refl

opening_offered : (q : Sizes) (nodes : ℕ → KeptPart) → Settled q nodes → (b v : ℕ) → Backed (opening q.nodes nodes) b v → HasOffered q.nodes nodes v
opening_offered q nodes s b v h = let at = backed_shown q.nodes nodes b v h in (s.vote at.0 (vote b v) at.1 at.2).offered

opening_backed : (q : Sizes) (nodes : ℕ → KeptPart) → Settled q nodes → (b v : ℕ) → Backed (opening q.nodes nodes) b v → IsPromiseQuorum q (λ a. has_promised b (nodes a))
opening_backed q nodes s b v h = let at = backed_shown q.nodes nodes b v h in (s.vote at.0 (vote b v) at.1 at.2).quorum

opening_safe : (q : Sizes) (nodes : ℕ → KeptPart) → Settled q nodes → (b v c u : ℕ) → Backed (opening q.nodes nodes) b v → c < b → (u ≡ v → ⊥) → IsPassed q (opening q.nodes nodes) c u
opening_safe q nodes s b v c u h low other =
    let at = backed_shown q.nodes nodes b v h in opening_passed q nodes s at.0 b v c u at.1 at.2 low other

pub opens : (q : Sizes) (nodes : ℕ → KeptPart) → AreQuorums q → Settled q nodes → Invariant q (opening q.nodes nodes)
opens q nodes are s = record {
  sizes = are;
  within = s.within;
  kept = λ a x below e. shows_vote q.nodes nodes a x below e;
  votes = opening_vote q nodes s;
  promises = λ a b report h. absurd (no_promise_shown q.nodes nodes a b report h);
  one_vote = opening_one_vote q nodes s;
  one_proposal = λ b v u h _. absurd (no_proposal_shown q.nodes nodes b v h);
  proposed = λ b v h. absurd (no_proposal_shown q.nodes nodes b v h);
  begun = λ b h. absurd h;
  begun_own = λ b h. absurd h;
  own = λ i below. (s.ballots i below).own;
  started = shows_start q.nodes nodes;
  prepared = opening_prepared q nodes s;
  promised = λ i a below member own. (s.ballots i below).promised a member own;
  voted = opening_voted q nodes s;
  offered = opening_offered q nodes s;
  backed = opening_backed q nodes s;
  safe = opening_safe q nodes s;
  answered = λ a below h. absurd h;
  learned = λ i v h. absurd h;
}
