-- The entry first and then the reached nodes, rising: how such a list is made, and that a function can be laid out by it.
use Rattle.std.proofs.Common.{◌≡◌, ◌≢◌, ℕ, zero, suc, ◌+◌, ◌<◌, ◌≤◌, List, [], ◌∷◌, ◌++◌, length, get_or, Bool, true, refl, sym, ap, subst, ◌∙◌, arith, inl, inr}
use Rattle.std.specs.Prelude.{◌↔◌, slice_get, Contains, All}
use Rattle.std.specs.List.Sorted.{IsStrictlyIncreasing}
use Rattle.std.proofs.lemmas.Bool.{cases_eq, cases_lt}
use Rattle.std.proofs.lemmas.List.Elements.{All-cons, recursion_from_All, Contains-get_or, Contains-push, Contains-append_left, Contains-push_cases}
use Rattle.std.proofs.lemmas.Option.{slice_get_within}
use Rattle.std.proofs.lemmas.List.Kept.{AllPairs-from_increasing}
use Rattle.std.proofs.lemmas.List.Quantifiers.{all_pairs_push}
use Rattle.machine.specs.Fits.{AreDistinct}
use Rattle.ltl.specs.Function.{FunctionData, IsFunction}
use Rattle.linearize_check_proof.specs.Layout.{successors_of}
use Rattle.linearize_check_proof.specs.Orders.{IsOrder}
use Rattle.linearize_check_proof.proofs.Places.{Contains-later}
use Rattle.linearize_check_layout.specs.Marks.{IsMarked}
use Rattle.linearize_check_layout.specs.Reach.{IsReachedIn, IsReached, IsFirstThenRising, IsRising}
use Rattle.linearize_check_layout.proofs.Searches.{onward_within}

-- ---- how it is made

-- a property that says the same of the others
pub rising-same : (P Q : ℕ → Type 0) (first : ℕ) (order : List ℕ) → ((n : ℕ) → n ≢ first → P n ↔ Q n) → IsFirstThenRising P first order → IsFirstThenRising Q first order
rising-same P Q first order same r = record {
  others = r.others;
  is = r.is;
  rising = r.rising;
  exactly = λ n. (
    λ h. let p = (r.exactly n).0 h in ((same n p.1).0 p.0, p.1),
    λ q. (r.exactly n).1 ((same n q.1).1 q.0, q.1),
  );
}

-- no others yet
pub rising-first : (P : ℕ → Type 0) (first : ℕ) → ((n : ℕ) → ¬ P n) → IsFirstThenRising P first (first ∷ [])
rising-first P first none = record {
  others = [];
  is = refl;
  rising = λ k below. absurd (omega (arith, below));
  exactly = λ n. (λ h. absurd (omega (arith, h.1)), λ p. absurd (none n p.0));
}

increasing-push : (xs : List ℕ) (n : ℕ) → IsStrictlyIncreasing xs → ((m : ℕ) → Contains xs m → m < n) → IsStrictlyIncreasing (xs ++ n ∷ [])
increasing-push xs n rising below =
    let pairs = all_pairs_push (λ x y. x < y) xs n (AllPairs-from_increasing xs rising) (λ k d within. below (get_or xs k d) (Contains-get_or xs k d within)) in
    λ k within. pairs k (k + 1) 0 (omega arith) within

-- one more
pub rising-push : (P Q : ℕ → Type 0) (first : ℕ) (order : List ℕ) (n : ℕ) → n ≢ first → Q n → ((m : ℕ) → P m → m < n) → ((m : ℕ) → m ≢ n → P m ↔ Q m) → IsFirstThenRising P first order → IsFirstThenRising Q first (order ++ n ∷ [])
rising-push P Q first order n other here below same r = record {
  others = r.others ++ n ∷ [];
  is = ap (λ ns. ns ++ n ∷ []) r.is;
  rising = increasing-push r.others n r.rising (λ m h. below m ((r.exactly m).0 h).0);
  exactly = λ m. (to m, from m);
}
  where
    to : (m : ℕ) → Contains (r.others ++ n ∷ []) m → Q m × (m ≢ first)
    to m h = elim (Contains-push_cases r.others n m h) as (λ _. Q m × (m ≢ first)) [
      | inl before ↦ (let p = (r.exactly m).0 before in ((same m (λ e. absurd (omega (arith, below m p.0, e)))).0 p.0, p.1))
      | inr is ↦ subst (λ k. Q k × (k ≢ first)) is (here, other)
    ]

    from : (m : ℕ) → Q m × (m ≢ first) → Contains (r.others ++ n ∷ []) m
    from m q = elim (cases_eq m n) as (λ _. Contains (r.others ++ n ∷ []) m) [
      | inl e ↦ subst (Contains (r.others ++ n ∷ [])) (sym e) (Contains-push r.others n)
      | inr ne ↦ Contains-append_left r.others (n ∷ []) m ((r.exactly m).1 ((same m ne).1 q.0, q.1))
    ]

-- the marked numbers below a place
abbrev pub MarkedBelow : List Bool → ℕ → ℕ → Type 0
MarkedBelow marks place n = (n < place) × IsMarked marks n

-- a number with no mark, and the first, are not added
pub rising-skips : (marks : List Bool) (first place : ℕ) (order : List ℕ) → (IsMarked marks place → place ≡ first) → IsFirstThenRising (MarkedBelow marks place) first order → IsFirstThenRising (MarkedBelow marks (place + 1)) first order
rising-skips marks first place order skipped r =
    rising-same (MarkedBelow marks place) (MarkedBelow marks (place + 1)) first order (λ n other. (λ p. (omega (arith, p.0), p.1), λ q. (below n other q, q.1))) r
  where
    below : (n : ℕ) → n ≢ first → MarkedBelow marks (place + 1) n → n < place
    below n other q = elim (cases_eq n place) as (λ _. n < place) [
      | inl e ↦ absurd (other (e ∙ skipped (subst (IsMarked marks) e q.1)))
      | inr ne ↦ omega (arith, ne, q.0)
    ]

-- another marked number is
pub rising-lists : (marks : List Bool) (first place : ℕ) (order : List ℕ) → IsMarked marks place → place ≢ first → IsFirstThenRising (MarkedBelow marks place) first order → IsFirstThenRising (MarkedBelow marks (place + 1)) first (order ++ place ∷ [])
rising-lists marks first place order marked other r =
    rising-push (MarkedBelow marks place) (MarkedBelow marks (place + 1)) first order place other (omega arith, marked) (λ m p. p.0)
    (λ m ne. (λ p. (omega (arith, p.0), p.1), λ q. (omega (arith, q.0, ne), q.1))) r

-- the whole table
pub rising-all : (marks : List Bool) (first place : ℕ) (order : List ℕ) → length marks ≤ place → IsFirstThenRising (MarkedBelow marks place) first order → IsFirstThenRising (IsMarked marks) first order
rising-all marks first place order all r =
    rising-same (MarkedBelow marks place) (IsMarked marks) first order (λ n other. (λ p. p.1, λ marked. (omega (arith, all, slice_get_within marks n true marked), marked))) r

-- ---- numbers that rise: distinct, and not too many

abbrev Above : ℕ → List ℕ → Type 0
Above low xs = (m : ℕ) → Contains xs m → low ≤ m

increasing-rest : (x : ℕ) (xs : List ℕ) → IsStrictlyIncreasing (x ∷ xs) → IsStrictlyIncreasing xs × Above (x + 1) xs
increasing-rest x xs rising = (
  λ k below. let next : suc k + 1 ≡ suc (k + 1) = omega arith in subst (λ j. get_or xs k 0 < get_or (x ∷ xs) j 0) next (rising (suc k) (omega (arith, below))),
  λ m h. let less = AllPairs-from_increasing (x ∷ xs) rising 0 (suc h.0) m (omega arith) (omega (arith, h.1)) in omega (arith, less, h.2),
)

increasing-distinct : (xs : List ℕ) → IsStrictlyIncreasing xs → AreDistinct xs
increasing-distinct [] rising = tt
increasing-distinct (x ∷ xs) rising =
    let rest = increasing-rest x xs rising in
    (recursion_from_All (λ y. x ≢ y) xs (λ k d below e. absurd (omega (arith, rest.1 (get_or xs k d) (Contains-get_or xs k d below), e))), increasing-distinct xs rest.0)

Contains-here : (x : ℕ) (xs : List ℕ) → Contains (x ∷ xs) x
Contains-here x xs = (0, omega arith, refl)

-- between two bounds
increasing-few : (low high : ℕ) (xs : List ℕ) → low ≤ high → IsStrictlyIncreasing xs → Above low xs → ((m : ℕ) → Contains xs m → m < high) → length xs + low ≤ high
increasing-few low high [] bounds rising above below = omega (arith, bounds)
increasing-few low high (x ∷ xs) bounds rising above below =
    let rest = increasing-rest x xs rising in
    let more = increasing-few (x + 1) high xs (omega (arith, below x (Contains-here x xs))) rest.0 rest.1 (λ m h. below m (Contains-later x xs m h)) in
    omega (arith, more, above x (Contains-here x xs))

-- and one number between them that is left out
increasing-fewer : (low high left_out : ℕ) (xs : List ℕ) → low ≤ left_out → left_out < high → IsStrictlyIncreasing xs → Above low xs → ((m : ℕ) → Contains xs m → (m < high) × (m ≢ left_out)) → length xs + 1 + low ≤ high
increasing-fewer low high left_out [] from_low to_high rising above below = omega (arith, from_low, to_high)
increasing-fewer low high left_out (x ∷ xs) from_low to_high rising above below =
    let rest = increasing-rest x xs rising in
    let here = below x (Contains-here x xs) in
    elim (cases_lt x left_out) as (λ _. length (x ∷ xs) + 1 + low ≤ high) [
      | inl less ↦ (
          let more = increasing-fewer (x + 1) high left_out xs (omega (arith, less)) to_high rest.0 rest.1 (λ m h. below m (Contains-later x xs m h)) in
          omega (arith, more, above x (Contains-here x xs))
          )
      | inr not_less ↦ (
          let more = increasing-few (x + 1) high xs (omega (arith, here.0)) rest.0 rest.1 (λ m h. (below m (Contains-later x xs m h)).0) in
          let apart : x ≢ left_out = here.1 in
          omega arith
          )
    ]

-- ---- what is reached

reached_within : (f : FunctionData) → IsFunction f → (steps n : ℕ) → IsReachedIn f steps n → n < length f.blocks
reached_within f fits zero n e = subst (λ k. k < length f.blocks) e fits.entry
reached_within f fits (suc steps) n (m, reached, h) = onward_within f.slots (length f.blocks) f.blocks fits.each m n h

pub rising_is_order : (f : FunctionData) → IsFunction f → (order : List ℕ) → IsRising f order → IsOrder f order
rising_is_order f fits order r = record {
  lists = record {
    few = omega (arith, few, fits.nodes, len);
    entry = ap (λ ns. slice_get ns 0) r.is;
    nodes = of_listed (λ n. n < length f.blocks) (λ n reached. reached_within f fits reached.0 n reached.1);
  };
  distinct = subst AreDistinct (sym r.is) (recursion_from_All (λ n. f.entry ≢ n) r.others (λ k d below e. ((r.exactly _).0 (Contains-get_or r.others k d below)).1 (sym e)), increasing-distinct r.others r.rising);
  closed = of_listed (λ n. All (Contains order) (successors_of (slice_get f.blocks n))) (λ n reached k d below. listed (get_or (successors_of (slice_get f.blocks n)) k d) (suc reached.0, (n, reached.1, Contains-get_or (successors_of (slice_get f.blocks n)) k d below)));
}
  where
    len : length order ≡ length r.others + 1
    len = omega (arith, ap length r.is)

    few : length r.others + 1 + 0 ≤ length f.blocks
    few = increasing-fewer 0 (length f.blocks) f.entry r.others (omega arith) fits.entry r.rising (λ m h. omega arith) (λ m h. let p = (r.exactly m).0 h in (reached_within f fits p.0.0 m p.0.1, p.1))

    -- what holds of each reached node holds of each listed one
    of_listed : (P : ℕ → Type 0) → ((n : ℕ) → IsReached f n → P n) → All P order
    of_listed P each = subst (All P) (sym r.is) (All-cons P f.entry r.others (each f.entry (0, refl)) (λ k d below. each (get_or r.others k d) ((r.exactly _).0 (Contains-get_or r.others k d below)).0))

    listed : (n : ℕ) → IsReached f n → Contains order n
    listed n reached = subst (λ ns. Contains ns n) (sym r.is) (elim (cases_eq n f.entry) as (λ _. Contains (f.entry ∷ r.others) n) [
      | inl e ↦ (0, omega arith, sym e)
      | inr ne ↦ Contains-later f.entry r.others n ((r.exactly n).1 (reached, ne))
    ])
