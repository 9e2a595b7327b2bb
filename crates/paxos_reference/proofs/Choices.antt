-- Where a value may be proposed, and where it may be learned: what the messages show is what the definitions ask.
use Rattle.std.proofs.Common.{◌≡◌, ℕ, ◌<◌, ◌≤◌, ◌⊎◌, ◌↔◌, Bool, true, false, IsTrue, ◌&&◌, ltb, eqb, List, Option, Some, None, inl, inr, refl, sym, ap, ◌∙◌, subst, arith}
use Rattle.std.proofs.lemmas.Bool.{ltb-true, lt-ltb, eqb-true, eq-eqb, leb-true, le-leb, and_parts, and_from}
use Rattle.std.specs.List.{list_any}
use Rattle.paxos_core_world.specs.KeptPart.{vote}
use Rattle.paxos_core_world.specs.Quorum.{Sizes, AreQuorums, is_promise_quorum, is_accept_quorum, IsPromiseQuorum}
use Rattle.paxos_core_world.proofs.Quorums.{promise_quorum_grows, accept_quorum_grows, member_of}
use Rattle.paxos_core_world.specs.Step.{NamesNone, IsHighest, IsSafeChoice, IsChosen, HasOffered}
use Rattle.paxos_core_world.specs.World.{World, Has}
use Rattle.paxos_core_world.specs.declared.msg.Msg.{Msg}
use Rattle.paxos_core_world.specs.declared.msg.Msg.TheVariants.{Prepare, Promise, Propose, Accepted}
use Rattle.paxos_core_world.specs.declared.vote.Vote.{Vote}
use Rattle.paxos_reference.specs.Tests.{is_accepted, is_within, is_promise, has_promised, has_voted, is_highest, is_tally, IsFree}
use Rattle.paxos_reference.proofs.Found.{any_has, found}

-- ---- promises

-- node a's promise for ballot b, with a report within `most`, was sent
record Promised (sent : List Msg) (b : ℕ) (most : Option ℕ) (a : ℕ) (report : Option Vote) : Type 0 where
  stands : Has (Promise a b report) sent
  within : is_within most report ≡ true

promise_shown : (sent : List Msg) (b : ℕ) (most : Option ℕ) (a : ℕ) (report : Option Vote) → Has (Promise a b report) sent → is_within most report ≡ true → has_promised sent b most a ≡ true
promise_shown sent b most a report h e =
    any_has (is_promise a b most) (Promise a b report) sent h
    (and_from (eqb a a) (eqb b b && is_within most report) (eq-eqb a a refl) (and_from (eqb b b) (is_within most report) (eq-eqb b b refl) e))

promise_in : (sent : List Msg) (b : ℕ) (most : Option ℕ) (a : ℕ) (m : Msg) → Has m sent → is_promise a b most m ≡ true → (report : Option Vote) × Promised sent b most a report
promise_in sent b most a (Promise k c report) h e =
    let all = and_parts (eqb k a) (eqb c b && is_within most report) e in
    let rest = and_parts (eqb c b) (is_within most report) all.1 in
    let node = eqb-true k a all.0 in
    let ballot = eqb-true c b rest.0 in
    (report, record { stands = subst (λ i. Has (Promise i b report) sent) node (subst (λ d. Has (Promise k d report) sent) ballot h); within = rest.1 })
promise_in sent b most a (Prepare c) h e = absurd (cc)
promise_in sent b most a (Propose c v) h e = absurd (cc)
promise_in sent b most a (Accepted k c v) h e = absurd (cc)

promise_found : (sent : List Msg) (b : ℕ) (most : Option ℕ) (a : ℕ) → has_promised sent b most a ≡ true → (report : Option Vote) × Promised sent b most a report
promise_found sent b most a h = let f = found (is_promise a b most) sent h in promise_in sent b most a f.item f.stands f.passes

within_none : (report : Option Vote) → is_within None report ≡ true → report ≡ None
within_none None e = refl
within_none (Some x) e = absurd (cc)

within_some : (c : ℕ) (report : Option Vote) → is_within (Some c) report ≡ true → (x : Vote) → report ≡ Some x → x.ballot ≤ c
within_some c None e x is = absurd (cc)
within_some c (Some y) e x is = let same : y.ballot ≡ x.ballot = cc in let most = leb-true y.ballot c e in omega arith

within_from : (c : ℕ) (report : Option Vote) → ((x : Vote) → report ≡ Some x → x.ballot ≤ c) → is_within (Some c) report ≡ true
within_from c None h = refl
within_from c (Some x) h = le-leb x.ballot c (h x refl)

-- ---- a value that is free to choose

safe_from_free : (z : Sizes) (w : World) (b v : ℕ) → IsFree z w b v → IsSafeChoice z w b v
safe_from_free z w b v h =
    record {
      members = has_promised w.sent b None;
      reports = λ _. None;
      quorum = h.quorum;
      promises = λ a below member.
          let p = promise_found w.sent b None a member in
          subst (λ r. Has (Promise a b r) w.sent) (within_none p.0 p.1.within) p.1.stands;
      choice = inl ((λ a below member. refl), h.offered);
    }

-- ---- a value that is adopted

module _ (z : Sizes) (w : World) (b v k : ℕ) (x : Vote) (below : k < z.nodes) (stands : Has (Promise k b (Some x)) w.sent) (value : x.value ≡ v) (quorum : IsPromiseQuorum z (has_promised w.sent b (Some x.ballot))) where
  -- what node a is taken to have reported, where it has promised
  abbrev Report : ℕ → Type 0
  Report a = (report : Option Vote) × (IsTrue (has_promised w.sent b (Some x.ballot) a) → Promised w.sent b (Some x.ballot) a report)

  any_report : (a : ℕ) (t : Bool) → has_promised w.sent b (Some x.ballot) a ≡ t → Report a
  any_report a true e = let p = promise_found w.sent b (Some x.ballot) a e in (p.0, λ _. p.1)
  any_report a false e = (None, λ h. absurd (let f : false ≡ true = sym e ∙ h in cc))

  -- node k's is the vote x
  abbrev report_by : (a : ℕ) (t : Bool) → eqb a k ≡ t → Report a
  report_by a true e = (Some x, λ _. record { stands = subst (λ i. Has (Promise i b (Some x)) w.sent) (sym (eqb-true a k e)) stands; within = le-leb x.ballot x.ballot (omega arith) })
  report_by a false e = any_report a (has_promised w.sent b (Some x.ballot) a) refl

  abbrev report_of : (a : ℕ) → Report a
  report_of a = report_by a (eqb a k) refl

  report_by_same : (a : ℕ) (t : Bool) (e : eqb a k ≡ t) → t ≡ true → (report_by a t e).0 ≡ Some x
  report_by_same a true e h = refl
  report_by_same a false e h = absurd (cc)

  report_of_same : (report_of k).0 ≡ Some x
  report_of_same = report_by_same k (eqb k k) refl (eq-eqb k k refl)

  safe_from_highest : IsSafeChoice z w b v
  safe_from_highest =
      record {
        members = has_promised w.sent b (Some x.ballot);
        reports = λ a. (report_of a).0;
        quorum = quorum;
        promises = λ a in_room member. ((report_of a).1 member).stands;
        choice = inr (record {
          node = k;
          ballot = x.ballot;
          below = below;
          member = promise_shown w.sent b (Some x.ballot) k (Some x) stands (le-leb x.ballot x.ballot (omega arith));
          report = report_of_same ∙ ap (λ u. Some (vote x.ballot u)) value;
          highest = λ a y in_room member is. within_some x.ballot (report_of a).0 ((report_of a).1 member).within y is;
        });
      }

highest_in : (z : Sizes) (w : World) (b v : ℕ) (m : Msg) → Has m w.sent → is_highest w.sent z b v m ≡ true → IsSafeChoice z w b v
highest_in z w b v (Promise k c (Some x)) h e =
    let all = and_parts (ltb k z.nodes) (eqb c b && (eqb x.value v && is_promise_quorum z (has_promised w.sent b (Some x.ballot)))) e in
    let rest = and_parts (eqb c b) (eqb x.value v && is_promise_quorum z (has_promised w.sent b (Some x.ballot))) all.1 in
    let last = and_parts (eqb x.value v) (is_promise_quorum z (has_promised w.sent b (Some x.ballot))) rest.1 in
    let stands : Has (Promise k b (Some x)) w.sent = subst (λ d. Has (Promise k d (Some x)) w.sent) (eqb-true c b rest.0) h in
    safe_from_highest z w b v k x (ltb-true k z.nodes all.0) stands (eqb-true x.value v last.0) last.1
highest_in z w b v (Promise k c None) h e = absurd (cc)
highest_in z w b v (Prepare c) h e = absurd (cc)
highest_in z w b v (Propose c u) h e = absurd (cc)
highest_in z w b v (Accepted k c u) h e = absurd (cc)

safe_from_adopted : (z : Sizes) (w : World) (b v : ℕ) → list_any (is_highest w.sent z b v) w.sent ≡ true → IsSafeChoice z w b v
safe_from_adopted z w b v h = let f = found (is_highest w.sent z b v) w.sent h in highest_in z w b v f.item f.stands f.passes

-- ---- no other value is safe

module _ (z : Sizes) (w : World) (b v : ℕ) (s : IsSafeChoice z w b v) where
  free_from_safe : NamesNone z.nodes s.members s.reports → HasOffered z.nodes w.nodes v → IsFree z w b v
  free_from_safe none offered =
      record {
        offered = offered;
        quorum = promise_quorum_grows z s.members (has_promised w.sent b None)
            (λ a below member. promise_shown w.sent b None a (s.reports a) (s.promises a below member) (ap (is_within None) (none a below member))) s.quorum;
      }

  adopted_from_safe : IsHighest z.nodes s.members s.reports v → list_any (is_highest w.sent z b v) w.sent ≡ true
  adopted_from_safe high =
      let stands : Has (Promise high.node b (Some (vote high.ballot v))) w.sent
      = subst (λ r. Has (Promise high.node b r) w.sent) high.report (s.promises high.node high.below high.member) in
      let quorum : IsPromiseQuorum z (has_promised w.sent b (Some high.ballot))
      = promise_quorum_grows z s.members (has_promised w.sent b (Some high.ballot))
      (λ a below member. promise_shown w.sent b (Some high.ballot) a (s.reports a) (s.promises a below member)
      (within_from high.ballot (s.reports a) (λ x is. high.highest a x below member is))) s.quorum in
      any_has (is_highest w.sent z b v) (Promise high.node b (Some (vote high.ballot v))) w.sent stands
      (and_from (ltb high.node z.nodes) (eqb b b && (eqb v v && is_promise_quorum z (has_promised w.sent b (Some high.ballot)))) (lt-ltb high.node z.nodes high.below)
      (and_from (eqb b b) (eqb v v && is_promise_quorum z (has_promised w.sent b (Some high.ballot))) (eq-eqb b b refl)
      (and_from (eqb v v) (is_promise_quorum z (has_promised w.sent b (Some high.ballot))) (eq-eqb v v refl) quorum)))

  safe_cases : IsFree z w b v ⊎ (list_any (is_highest w.sent z b v) w.sent ≡ true)
  safe_cases = elim s.choice [ inl none ↦ inl (free_from_safe none.0 none.1) | inr high ↦ inr (adopted_from_safe high) ]

-- a value is safe if it is adopted or free
pub adopted_is_safe : (z : Sizes) (w : World) (b v : ℕ) (r : Bool) → r ≡ list_any (is_highest w.sent z b v) w.sent → r ≡ true → IsSafeChoice z w b v
adopted_is_safe z w b v r is h = safe_from_adopted z w b v (sym is ∙ h)

-- and only then
pub free_is_safe : (z : Sizes) (w : World) (b v : ℕ) (r : Bool) → r ≡ list_any (is_highest w.sent z b v) w.sent → r ≡ false → IsFree z w b v ↔ IsSafeChoice z w b v
free_is_safe z w b v r is h = (
  λ free. safe_from_free z w b v free,
  λ s. elim (safe_cases z w b v s) [ inl free ↦ free | inr adopted ↦ absurd (let e : r ≡ true = is ∙ adopted in cc) ],
)

-- ---- votes

vote_shown : (sent : List Msg) (b v a : ℕ) → Has (Accepted a b v) sent → has_voted sent b v a ≡ true
vote_shown sent b v a h =
    any_has (is_accepted a b v) (Accepted a b v) sent h
    (and_from (eqb a a) (eqb b b && eqb v v) (eq-eqb a a refl) (and_from (eqb b b) (eqb v v) (eq-eqb b b refl) (eq-eqb v v refl)))

vote_in : (sent : List Msg) (b v a : ℕ) (m : Msg) → Has m sent → is_accepted a b v m ≡ true → Has (Accepted a b v) sent
vote_in sent b v a (Accepted k c u) h e =
    let all = and_parts (eqb k a) (eqb c b && eqb u v) e in
    let rest = and_parts (eqb c b) (eqb u v) all.1 in
    let node = eqb-true k a all.0 in
    let ballot = eqb-true c b rest.0 in
    let value = eqb-true u v rest.1 in
    let same : ◌≡◌ {A = Msg} (Accepted k c u) (Accepted a b v) = cc in
    subst (λ m. Has m sent) same h
vote_in sent b v a (Prepare c) h e = absurd (cc)
vote_in sent b v a (Promise k c r) h e = absurd (cc)
vote_in sent b v a (Propose c u) h e = absurd (cc)

tally_in : (z : Sizes) (w : World) (v : ℕ) (m : Msg) → Has m w.sent → is_tally w.sent z v m ≡ true → (b : ℕ) × IsChosen z w b v
tally_in z w v (Accepted k b u) h e =
    let all = and_parts (eqb u v) (is_accept_quorum z (has_voted w.sent b v)) e in (
      b,
      record {
        members = has_voted w.sent b v;
        quorum = all.1;
        votes = λ a below member. let f = found (is_accepted a b v) w.sent member in vote_in w.sent b v a f.item f.stands f.passes;
      },
    )
tally_in z w v (Prepare c) h e = absurd (cc)
tally_in z w v (Promise k c r) h e = absurd (cc)
tally_in z w v (Propose c u) h e = absurd (cc)

tally_from : (z : Sizes) (w : World) (b v : ℕ) → AreQuorums z → IsChosen z w b v → list_any (is_tally w.sent z v) w.sent ≡ true
tally_from z w b v are h =
    let one = member_of z are h.members h.quorum in
    any_has (is_tally w.sent z v) (Accepted one.node b v) w.sent (h.votes one.node one.below one.member)
    (and_from (eqb v v) (is_accept_quorum z (has_voted w.sent b v)) (eq-eqb v v refl)
    (accept_quorum_grows z h.members (has_voted w.sent b v) (λ a below member. vote_shown w.sent b v a (h.votes a below member)) h.quorum))

-- an accept quorum voted for v under one ballot
pub chosen_tells : (z : Sizes) (w : World) (v : ℕ) (r : Bool) → AreQuorums z → r ≡ list_any (is_tally w.sent z v) w.sent → IsTrue r ↔ ((b : ℕ) × IsChosen z w b v)
chosen_tells z w v r are is = (
  λ h. let f = found (is_tally w.sent z v) w.sent (sym is ∙ h) in tally_in z w v f.item f.stands f.passes,
  λ h. is ∙ tally_from z w h.0 v are h.1,
)
