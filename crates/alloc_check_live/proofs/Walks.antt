-- The walk backwards from the uses of a register.
use Rattle.std.proofs.Common.{◌≡◌, ℕ, zero, suc, ◌+◌, ◌<◌, ◌≤◌, List, [], ◌∷◌, ◌++◌, length, replicate, Some, Bool, true, false, refl, sym, ap, ◌∙◌, subst, arith, ◌⊎◌, inl, inr, length-append}
use Rattle.std.specs.Prelude.{◌↔◌, ◌≢◌, not, slice_get, Contains}
use Rattle.std.specs.List.{filter}
use Rattle.std.proofs.lemmas.Bool.{cases_eq, cases_Bool, not_from_false, cond-true, cond-false}
use Rattle.std.proofs.lemmas.List.{length-replicate}
use Rattle.std.proofs.lemmas.List.Elements.{Contains-append_left, Contains-append_right, Contains-append_cases, Contains-push, Contains-push_cases, All-contains, All-filter, All-contains_itself, filter_passes}
use Rattle.rtl_language.specs.declared.instruction.Instruction.{Instruction}
use Rattle.rtl_language.specs.Function.{FunctionData, IsFunction}
use Rattle.alloc_check_live.specs.Liveness.{used_of, defined_of, onward_of, LivesFor, IsLive}
use Rattle.alloc_check_live.specs.Lists.{registers_at, RisesFrom, AreLive, AreLiveBelow}
use Rattle.alloc_check_live.specs.Tables.{added, IsIndex, AreThose}
use Rattle.alloc_check_live.specs.Walks.{ends_with, defines, kept}
use Rattle.alloc_check_live.proofs.Tables.{head_of, later_of, one_or_later, none_of, nothing_in, length-added, at-added_same, at-added_other, each_added}
use Rattle.alloc_check_live.proofs.Risings.{ends-push, has_last, all_below, rises-push}
use Rattle.alloc_check_live.proofs.Lives.{not_that, is_not_that, live_within, live_fits}

-- ---- the nodes that do not define a register

abbrev keeps : List Instruction → ℕ → ℕ → Bool
keeps nodes register n = not (defines (slice_get nodes n) register)

true_of_not : (b : Bool) → not b ≡ true → b ≡ false
true_of_not true e = absurd (let impossible : false ≡ true = e in cc)
true_of_not false e = refl

pub kept_from : (nodes : List Instruction) (register : ℕ) (ns : List ℕ) (n : ℕ) → Contains (kept nodes register ns) n → Contains ns n × (defined_of (slice_get nodes n) ≢ Some register)
kept_from nodes register ns n h = (
  All-contains (Contains ns) (kept nodes register ns) n (All-filter (keeps nodes register) (Contains ns) ns (All-contains_itself ns)) h,
  not_that (defined_of (slice_get nodes n)) register (true_of_not (defines (slice_get nodes n) register) (All-contains (λ m. keeps nodes register m ≡ true) (kept nodes register ns) n (filter_passes (keeps nodes register) ns) h)),
)

in_filter : (test : ℕ → Bool) (ns : List ℕ) (n : ℕ) → Contains ns n → test n ≡ true → Contains (filter test ns) n
in_filter test [] n h passes = none_of n h
in_filter test (m ∷ ns) n h passes =
    elim (cases_Bool (test m)) as (λ _. Contains (filter test (m ∷ ns)) n) [
      | inl does ↦ subst (λ xs. Contains xs n) (sym (cond-true (test m) (m ∷ filter test ns) (filter test ns) does)) (elim (one_or_later m ns n h) as (λ _. Contains (m ∷ filter test ns) n) [
        | inl e ↦ subst (Contains (m ∷ filter test ns)) e (head_of m (filter test ns))
        | inr later ↦ later_of m (filter test ns) n (in_filter test ns n later passes)
      ])
      | inr fails ↦ subst (λ xs. Contains xs n) (sym (cond-false (test m) (m ∷ filter test ns) (filter test ns) fails)) (elim (one_or_later m ns n h) as (λ _. Contains (filter test ns) n) [
        | inl e ↦ absurd (let impossible : true ≡ false = sym passes ∙ ap test (sym e) ∙ fails in cc)
        | inr later ↦ in_filter test ns n later passes
      ])
    ]

kept_to : (nodes : List Instruction) (register : ℕ) (ns : List ℕ) (n : ℕ) → Contains ns n → defined_of (slice_get nodes n) ≢ Some register → Contains (kept nodes register ns) n
kept_to nodes register ns n h other = in_filter (keeps nodes register) ns n h (not_from_false (defines (slice_get nodes n) register) (is_not_that (defined_of (slice_get nodes n)) register other))

-- no more than there were
few_pass : (test : ℕ → Bool) (ns : List ℕ) → length (filter test ns) ≤ length ns
few_pass test [] = omega arith
few_pass test (n ∷ ns) =
    let few = few_pass test ns in
    elim (cases_Bool (test n)) as (λ _. length (filter test (n ∷ ns)) ≤ length (n ∷ ns)) [
      | inl does ↦ subst (λ xs. length xs ≤ suc (length ns)) (sym (cond-true (test n) (n ∷ filter test ns) (filter test ns) does)) (omega arith)
      | inr fails ↦ subst (λ xs. length xs ≤ suc (length ns)) (sym (cond-false (test n) (n ∷ filter test ns) (filter test ns) fails)) (omega arith)
    ]

-- ---- what is still to be done

-- none where it was entered
abbrev pub unless_entered : Bool → ℕ → ℕ
unless_entered true n = 0
unless_entered false n = n

none_left : (b : Bool) (n : ℕ) → b ≡ true → unless_entered b n ≡ 0
none_left true n e = refl
none_left false n e = absurd (let impossible : false ≡ true = e in cc)

all_left : (b : Bool) (n : ℕ) → b ≡ false → unless_entered b n ≡ n
all_left true n e = absurd (let impossible : true ≡ false = e in cc)
all_left false n e = refl

-- how many nodes lead to those where the register was not entered
abbrev pub unseen : ℕ → List (List ℕ) → List (List ℕ) → ℕ
unseen register [] leading = 0
unseen register (xs ∷ found) [] = 0
unseen register (xs ∷ found) (ns ∷ leading) = unless_entered (ends_with xs register) (length ns) + unseen register found leading

abbrev pub left_over : ℕ → List (List ℕ) → List (List ℕ) → List ℕ → ℕ
left_over register found leading pending = length pending + unseen register found leading

unseen-added : (register : ℕ) (found leading : List (List ℕ)) (n : ℕ) → n < length found → n < length leading → ends_with (registers_at found n) register ≡ false → unseen register (added found n register) leading + length (registers_at leading n) ≡ unseen register found leading
unseen-added register [] leading n below also e = absurd (omega (arith, below))
unseen-added register (xs ∷ found) [] n below also e = absurd (omega (arith, also))
unseen-added register (xs ∷ found) (ns ∷ leading) zero below also e =
    let after = none_left (ends_with (xs ++ register ∷ []) register) (length ns) (ends-push xs register) in
    let before = all_left (ends_with xs register) (length ns) e in
    omega (arith, after, before)
unseen-added register (xs ∷ found) (ns ∷ leading) (suc n) below also e =
    omega (arith, unseen-added register found leading n (omega (arith, below)) (omega (arith, also)) e)

-- ---- what the walk keeps

-- entered, or on the stack
abbrev pub Reached : ℕ → List (List ℕ) → List ℕ → ℕ → Type 0
Reached register found pending n = Contains (registers_at found n) register ⊎ Contains pending n

pub record Walking (nodes : List Instruction) (register : ℕ) (found : List (List ℕ)) (pending : List ℕ) : Type 0 where
  pub count : length found ≡ length nodes
  pub rising : (n : ℕ) → RisesFrom 0 (registers_at found n)
  pub upto : (n p : ℕ) → Contains (registers_at found n) p → p ≤ register
  pub older : (n p : ℕ) → p < register → Contains (registers_at found n) p ↔ IsLive nodes n p
  pub entered : (n : ℕ) → Contains (registers_at found n) register → IsLive nodes n register
  pub waiting : (n : ℕ) → Contains pending n → IsLive nodes n register
  pub users : (n : ℕ) → Contains (used_of (slice_get nodes n)) register → Reached register found pending n
  pub onward : (n m : ℕ) → defined_of (slice_get nodes n) ≢ Some register → Contains (onward_of (slice_get nodes n)) m → Contains (registers_at found m) register → Reached register found pending n

pub walking_first : (nodes : List Instruction) (register : ℕ) (found : List (List ℕ)) (pending : List ℕ) → AreLiveBelow nodes register found → AreThose used_of nodes register pending → Walking nodes register found pending
walking_first nodes register found pending before those = record {
  count = before.count;
  rising = before.rising;
  upto = λ n p h. let less = ((before.exactly n p).0 h).1 in omega (arith, less);
  older = λ n p less. (λ h. ((before.exactly n p).0 h).0, λ live. (before.exactly n p).1 (live, less));
  entered = λ n h. let less = ((before.exactly n register).0 h).1 in absurd (omega (arith, less));
  waiting = λ n h. (0, (those n).0 h);
  users = λ n h. inr ((those n).1 h);
  onward = λ n m other leads h. let less = ((before.exactly m register).0 h).1 in absurd (omega (arith, less));
}

module _ (nodes : List Instruction) (register : ℕ) (found : List (List ℕ)) (rest : List ℕ) (n : ℕ) (before : Walking nodes register found (rest ++ n ∷ [])) where
  here_live : IsLive nodes n register
  here_live = before.waiting n (Contains-push rest n)

  pub popped_within : n < length found
  popped_within = omega (arith, live_within nodes here_live.0 n register here_live.1, before.count)

  -- the register was entered at the node
  after_seen : Contains (registers_at found n) register → Walking nodes register found rest
  after_seen seen = record {
    count = before.count;
    rising = before.rising;
    upto = before.upto;
    older = before.older;
    entered = before.entered;
    waiting = λ k h. before.waiting k (Contains-append_left rest (n ∷ []) k h);
    users = λ k h. still k (before.users k h);
    onward = λ k m other leads h. still k (before.onward k m other leads h);
  }
    where
      still : (k : ℕ) → Reached register found (rest ++ n ∷ []) k → Reached register found rest k
      still k (inl h) = inl h
      still k (inr h) = elim (Contains-push_cases rest n k h) as (λ _. Reached register found rest k) [
        | inl l ↦ inr l
        | inr e ↦ inl (subst (λ j. Contains (registers_at found j) register) e seen)
      ]

  -- the register is entered, and the nodes that lead to it and keep it go on the stack
  after_first : (leading : List (List ℕ)) → IsIndex onward_of nodes (length nodes) leading → ends_with (registers_at found n) register ≡ false → Walking nodes register (added found n register) (rest ++ kept nodes register (registers_at leading n))
  after_first leading index first = record {
    count = length-added found n register ∙ before.count;
    rising = λ k. each_added (λ j xs. RisesFrom 0 xs) found n register within
        (rises-push 0 (registers_at found n) register (before.rising n) (omega arith) (all_below 0 (registers_at found n) register (before.rising n) (before.upto n) first))
        k (before.rising k);
    upto = λ k. each_added (λ j xs. (p : ℕ) → Contains xs p → p ≤ register) found n register within
        (λ p h. elim (Contains-push_cases (registers_at found n) register p h) as (λ _. p ≤ register) [ inl old ↦ before.upto n p old | inr e ↦ omega (arith, e) ])
        k (before.upto k);
    older = λ k. each_added (λ j xs. (p : ℕ) → p < register → Contains xs p ↔ IsLive nodes j p) found n register within
        (λ p less. (
          λ h. elim (Contains-push_cases (registers_at found n) register p h) as (λ _. IsLive nodes n p) [ inl old ↦ (before.older n p less).0 old | inr e ↦ absurd (omega (arith, e, less)) ],
          λ live. Contains-append_left (registers_at found n) (register ∷ []) p ((before.older n p less).1 live),
        ))
        k (before.older k);
    entered = λ k. each_added (λ j xs. Contains xs register → IsLive nodes j register) found n register within (λ h. here_live) k (before.entered k);
    waiting = λ k h.
        elim (Contains-append_cases rest next k h) as (λ _. IsLive nodes k register) [
          | inl l ↦ before.waiting k (Contains-append_left rest (n ∷ []) k l)
          | inr r ↦ (let from = kept_from nodes register (registers_at leading n) k r in (suc here_live.0, (n, from.1, ((index.exactly n k).0 from.0).1, here_live.1)))
        ];
    users = λ k h. still k (before.users k h);
    onward = onward';
  }
    where
      next : List ℕ
      next = kept nodes register (registers_at leading n)

      within : n < length found
      within = popped_within

      entered' : Contains (registers_at (added found n register) n) register
      entered' = subst (λ xs. Contains xs register) (sym (at-added_same found n register within)) (Contains-push (registers_at found n) register)

      still : (k : ℕ) → Reached register found (rest ++ n ∷ []) k → Reached register (added found n register) (rest ++ next) k
      still k (inl h) = inl (each_added (λ j xs. Contains (registers_at found j) register → Contains xs register) found n register within (λ c. Contains-push (registers_at found n) register) k (λ c. c) h)
      still k (inr h) = elim (Contains-push_cases rest n k h) as (λ _. Reached register (added found n register) (rest ++ next) k) [
        | inl l ↦ inr (Contains-append_left rest next k l)
        | inr e ↦ inl (subst (λ j. Contains (registers_at (added found n register) j) register) e entered')
      ]

      onward' : (k m : ℕ) → defined_of (slice_get nodes k) ≢ Some register → Contains (onward_of (slice_get nodes k)) m → Contains (registers_at (added found n register) m) register → Reached register (added found n register) (rest ++ next) k
      onward' k m other leads h =
          elim (cases_eq m n) as (λ _. Reached register (added found n register) (rest ++ next) k) [
            | inl e ↦ inr (Contains-append_right rest next k (kept_to nodes register (registers_at leading n) k ((index.exactly n k).1 (omega (arith, within, before.count), subst (Contains (onward_of (slice_get nodes k))) e leads)) other))
            | inr apart ↦ still k (before.onward k m other leads (subst (λ xs. Contains xs register) (at-added_other found n register m apart) h))
          ]

  -- what one step does, whether the register was entered at the node or not
  pub walking_after : (leading : List (List ℕ)) → IsIndex onward_of nodes (length nodes) leading → (found' : List (List ℕ)) (pending' : List ℕ) → (ends_with (registers_at found n) register ≡ true → (found' ≡ found) × (pending' ≡ rest)) → (ends_with (registers_at found n) register ≡ false → (found' ≡ added found n register) × (pending' ≡ rest ++ kept nodes register (registers_at leading n))) → Walking nodes register found' pending'
  walking_after leading index found' pending' seen first =
      elim (cases_Bool (ends_with (registers_at found n) register)) as (λ _. Walking nodes register found' pending') [
        | inl does ↦ (let s = seen does in rw (s.0, s.1) (after_seen (has_last (registers_at found n) register does)))
        | inr fails ↦ (let s = first fails in rw (s.0, s.1) (after_first leading index fails))
      ]

  pub left_over-falls : (leading : List (List ℕ)) → IsIndex onward_of nodes (length nodes) leading → (found' : List (List ℕ)) (pending' : List ℕ) → (ends_with (registers_at found n) register ≡ true → (found' ≡ found) × (pending' ≡ rest)) → (ends_with (registers_at found n) register ≡ false → (found' ≡ added found n register) × (pending' ≡ rest ++ kept nodes register (registers_at leading n))) → left_over register found' leading pending' < left_over register found leading (rest ++ n ∷ [])
  left_over-falls leading index found' pending' seen first =
      let len = length-append rest (n ∷ []) in
      elim (cases_Bool (ends_with (registers_at found n) register)) as (λ _. left_over register found' leading pending' < left_over register found leading (rest ++ n ∷ [])) [
        | inl does ↦ (let s = seen does in rw (s.0, s.1) (omega arith))
        | inr fails ↦ (
            let s = first fails in
            let len' = length-append rest (kept nodes register (registers_at leading n)) in
            let few : length (kept nodes register (registers_at leading n)) ≤ length (registers_at leading n) = few_pass (keeps nodes register) (registers_at leading n) in
            let one = unseen-added register found leading n popped_within (omega (arith, popped_within, before.count, index.counted)) fails in
            rw (s.0, s.1) (omega arith)
            )
      ]

-- ---- what was found when the stack is empty

pub walking_done : (nodes : List Instruction) (register : ℕ) (found : List (List ℕ)) → Walking nodes register found [] → AreLiveBelow nodes (register + 1) found
walking_done nodes register found done = record {
  count = done.count;
  rising = done.rising;
  exactly = λ n p. (sound n p, whole n p);
}
  where
    out : (n : ℕ) → Reached register found [] n → Contains (registers_at found n) register
    out n (inl h) = h
    out n (inr h) = none_of n h

    complete : (steps n : ℕ) → LivesFor nodes steps n register → Contains (registers_at found n) register
    complete zero n h = out n (done.users n h)
    complete (suc steps) n (m, other, leads, h) = out n (done.onward n m other leads (complete steps m h))

    sound : (n p : ℕ) → Contains (registers_at found n) p → IsLive nodes n p × (p < register + 1)
    sound n p h =
        let le = done.upto n p h in
        elim (cases_eq p register) as (λ _. IsLive nodes n p × (p < register + 1)) [
          | inl e ↦ (subst (IsLive nodes n) (sym e) (done.entered n (subst (Contains (registers_at found n)) e h)), omega (arith, le))
          | inr apart ↦ ((done.older n p (omega (arith, le, apart))).0 h, omega (arith, le))
        ]

    whole : (n p : ℕ) → IsLive nodes n p × (p < register + 1) → Contains (registers_at found n) p
    whole n p h =
        elim (cases_eq p register) as (λ _. Contains (registers_at found n) p) [
          | inl e ↦ subst (Contains (registers_at found n)) (sym e) (complete h.0.0 n (subst (LivesFor nodes h.0.0 n) e h.0.1))
          | inr apart ↦ (done.older n p (omega (arith, h.1, apart))).1 h.0
        ]

-- ---- all registers

pub live_none : (nodes : List Instruction) (count : ℕ) → count ≡ length nodes → AreLiveBelow nodes 0 (replicate count [])
live_none nodes count same = record {
  count = length-replicate {A = List ℕ} count [] ∙ same;
  rising = λ n. rises count n;
  exactly = λ n p. (λ h. nothing_in count n p h, λ h. absurd (omega (arith, h.1)));
}
  where
    rises : (count n : ℕ) → RisesFrom 0 (registers_at (replicate count []) n)
    rises zero n = tt
    rises (suc count) zero = tt
    rises (suc count) (suc n) = rises count n

pub live_all : (f : FunctionData) → IsFunction f → (bound : ℕ) (found : List (List ℕ)) → f.registers ≤ bound → AreLiveBelow f.nodes bound found → AreLive f.nodes found
live_all f fits bound found all below = record {
  count = below.count;
  rising = below.rising;
  exactly = λ n p. (λ h. ((below.exactly n p).0 h).0, λ live. (below.exactly n p).1 (live, omega (arith, live_fits f fits n p live, all)));
}
