-- Lists whose elements meet one after the other.
use Rattle.std.proofs.Common.{◌≡◌, ◌≢◌, ℕ, zero, suc, ◌+◌, ◌<◌, ◌≤◌, ◌↔◌, Bool, false, cond, List, [], ◌∷◌, length, set, get_or, Option, Some, refl, sym, ap, subst, ◌∙◌, arith, inl, inr}
use Rattle.std.specs.Prelude.{slice_get, IsTrue}
use Rattle.std.proofs.lemmas.Bool.{cases_eq}
use Rattle.std.proofs.lemmas.List.{length-set}
use Rattle.std.proofs.lemmas.Option.{slice_get-get_or, slice_get_within}
use Rattle.farm_nodes_meet_seats.specs.Counts.{IsCount}
use Rattle.farm_nodes_meet_seats.specs.Functions.{BothLink, HoldSameOffers, MetIn, HasMet}
use Rattle.farm_nodes_meet_seats.specs.Held.{Held}
use Rattle.farm_nodes_meet_seats.specs.Lists.{IsAt, IsOneAt, LinkAt, AreAll, AreAllStrange, HaveMetAll}
use Rattle.farm_nodes_meet_seats.proofs.Counts.{count_next, most_next, each_counted, none_counted}
use Rattle.farm_nodes_meet_seats.proofs.FourRooms.{same_held, same_rooms}

get-set_same : {S : Type 0} (xs : List S) (i : ℕ) (x y : S) → slice_get (set xs i x) i ≡ Some y → x ≡ y
get-set_same [] i x y e = absurd (cc e)
get-set_same (z ∷ xs) zero x y e = cc e
get-set_same (z ∷ xs) (suc i) x y e = get-set_same xs i x y e

get-set_here : {S : Type 0} (xs : List S) (i : ℕ) (x z : S) → slice_get xs i ≡ Some z → slice_get (set xs i x) i ≡ Some x
get-set_here [] i x z e = absurd (cc e)
get-set_here (y ∷ xs) zero x z e = refl
get-set_here (y ∷ xs) (suc i) x z e = get-set_here xs i x z e

get-set_other : {S : Type 0} (xs : List S) (i j : ℕ) (x : S) → j ≢ i → slice_get (set xs i x) j ≡ slice_get xs j
get-set_other [] i j x other = refl
get-set_other (z ∷ xs) zero zero x other = absurd (other refl)
get-set_other (z ∷ xs) zero (suc j) x other = refl
get-set_other (z ∷ xs) (suc i) zero x other = refl
get-set_other (z ∷ xs) (suc i) (suc j) x other = get-set_other xs i j x (λ e. other (ap suc e))

one_item : {S : Type 0} (o : Option S) (x y : S) → o ≡ Some x → o ≡ Some y → x ≡ y
one_item o x y e e' = cc

module _ {S : Type 0} (Met : S → S → S → S → Type 0) (Links : S → S → Type 0) where
  -- the first n have met, and the others are as they were
  pub record MetBefore (xs ys xs' ys' : List S) (n count : ℕ) : Type 0 where
    pub first : length xs' ≡ length xs
    pub second : length ys' ≡ length ys
    pub each : (k : ℕ) (a b a' b' : S) → k < n → slice_get xs k ≡ Some a → slice_get ys k ≡ Some b
        → slice_get xs' k ≡ Some a' → slice_get ys' k ≡ Some b' → Met a b a' b'
    pub rest_first : (k : ℕ) → n ≤ k → slice_get xs' k ≡ slice_get xs k
    pub rest_second : (k : ℕ) → n ≤ k → slice_get ys' k ≡ slice_get ys k
    pub counted : IsCount (IsAt Links xs' ys') n count
    pub most : count ≤ n

  pub met_none : (xs ys : List S) → MetBefore xs ys xs ys 0 0
  met_none xs ys = record {
    first = refl;
    second = refl;
    each = λ k a b a' b' below. absurd (omega (arith, below));
    rest_first = λ k above. refl;
    rest_second = λ k above. refl;
    counted = record { told = λ k. false; number = refl; which = λ k below. absurd (omega (arith, below)) };
    most = omega arith;
  }

  -- at a place where nothing was set all is so as before
  stays_at : (xs ys xs' ys' : List S) (k : ℕ) → slice_get xs' k ≡ slice_get xs k → slice_get ys' k ≡ slice_get ys k → IsAt Links xs ys k ↔ IsAt Links xs' ys' k
  stays_at xs ys xs' ys' k ex ey = (
    λ is a b ea eb. is a b (sym ex ∙ ea) (sym ey ∙ eb),
    λ is a b ea eb. is a b (ex ∙ ea) (ey ∙ eb),
  )

  met_step : (xs ys xs' ys' : List S) (n count : ℕ) (a b a' b' : S) (r : Bool)
      → slice_get xs' n ≡ Some a → slice_get ys' n ≡ Some b → MetBefore xs ys xs' ys' n count
      → Met a b a' b' → (IsTrue r ↔ Links a' b')
      → MetBefore xs ys (set xs' n a') (set ys' n b') (suc n) (count + cond r 1 0)
  met_step xs ys xs' ys' n count a b a' b' r at_first at_second before met links =
      let other_first : (k : ℕ) → k ≢ n → slice_get (set xs' n a') k ≡ slice_get xs' k = λ k other. get-set_other xs' n k a' other in
      let other_second : (k : ℕ) → k ≢ n → slice_get (set ys' n b') k ≡ slice_get ys' k = λ k other. get-set_other ys' n k b' other in
      let here : IsAt Links (set xs' n a') (set ys' n b') n ↔ Links a' b' = (
        λ is. is a' b' (get-set_here xs' n a' a at_first) (get-set_here ys' n b' b at_second),
        λ is x y ex ey. subst (λ u. Links u y) (get-set_same xs' n a' x ex) (subst (λ v. Links a' v) (get-set_same ys' n b' y ey) is),
      ) in
      record {
        first = length-set xs' n a' ∙ before.first;
        second = length-set ys' n b' ∙ before.second;
        each = λ k p q p' q' below ep eq ep' eq'. elim (cases_eq k n) [
          | inl is ↦
              let first_old : a ≡ p = one_item (slice_get xs n) a p (sym (before.rest_first n (omega arith)) ∙ at_first) (sym (ap (λ j. slice_get xs j) is) ∙ ep) in
              let second_old : b ≡ q = one_item (slice_get ys n) b q (sym (before.rest_second n (omega arith)) ∙ at_second) (sym (ap (λ j. slice_get ys j) is) ∙ eq) in
              let first_new : a' ≡ p' = get-set_same xs' n a' p' (sym (ap (λ j. slice_get (set xs' n a') j) is) ∙ ep') in
              let second_new : b' ≡ q' = get-set_same ys' n b' q' (sym (ap (λ j. slice_get (set ys' n b') j) is) ∙ eq') in
              subst (λ x. Met x q p' q') first_old (subst (λ x. Met a x p' q') second_old (subst (λ x. Met a b x q') first_new (subst (λ x. Met a b a' x) second_new met)))
          | inr other ↦ before.each k p q p' q' (omega (arith, below, other)) ep eq (sym (other_first k other) ∙ ep') (sym (other_second k other) ∙ eq')
        ];
        rest_first = λ k above. other_first k (λ e. absurd (omega (arith, e, above))) ∙ before.rest_first k (omega (arith, above));
        rest_second = λ k above. other_second k (λ e. absurd (omega (arith, e, above))) ∙ before.rest_second k (omega (arith, above));
        counted = count_next (IsAt Links xs' ys') (IsAt Links (set xs' n a') (set ys' n b')) n count r before.counted
            (λ k below. let other : k ≢ n = λ e. absurd (omega (arith, e, below)) in
            stays_at xs' ys' (set xs' n a') (set ys' n b') k (other_first k other) (other_second k other))
            ((λ e. here.1 (links.0 e), λ is. links.1 (here.0 is)));
        most = most_next n count r before.most;
      }

-- what stands where another list that is as long has an element
pub there : {S : Type 0} (xs ys : List S) (k : ℕ) (x : S) → length ys ≡ length xs → slice_get ys k ≡ Some x → slice_get xs k ≡ Some (get_or xs k x)
there xs ys k x long e = let within : k < length ys = slice_get_within ys k x e in slice_get-get_or xs k x (omega (arith, within, long))

-- what stands at a place within
found : {S : Type 0} (xs : List S) (k : ℕ) → k < length xs → (x : S) × (slice_get xs k ≡ Some x)
found [] k within = absurd (omega (arith, within))
found (x ∷ xs) zero within = (x, refl)
found (x ∷ xs) (suc k) within = found xs k (omega (arith, within))

module _ {S T1 T2 T3 T4 : Type 0} (view : S → Held T1 T2 T3 T4) where
  abbrev pub Met : S → S → S → S → Type 0
  Met a b a' b' = MetIn (view a) (view b) (view a') (view b')

  abbrev pub Links : S → S → Type 0
  Links a b = BothLink (view a) (view b)

  -- the next ones meet
  pub met_next : (xs ys xs' ys' : List S) (n count count' : ℕ) (a b a' b' : S) (r : Bool) → n < length xs → length xs ≡ length ys
      → MetBefore Met Links xs ys xs' ys' n count → HasMet (view (get_or xs' n a)) (view (get_or ys' n b)) (view a') (view b') r → count' ≡ count + cond r 1 0
      → MetBefore Met Links xs ys (set xs' n a') (set ys' n b') (n + 1) count'
  met_next xs ys xs' ys' n count count' a b a' b' r within long before has_met e =
      let in_first : n < length xs' = omega (arith, within, before.first) in
      let in_second : n < length ys' = omega (arith, within, long, before.second) in
      let step : MetBefore Met Links xs ys (set xs' n a') (set ys' n b') (suc n) (count + cond r 1 0) =
      met_step Met Links xs ys xs' ys' n count (get_or xs' n a) (get_or ys' n b) a' b' r (slice_get-get_or xs' n a in_first)
      (slice_get-get_or ys' n b in_second) before has_met.met has_met.link in
      let next : suc n ≡ n + 1 = omega arith in
      subst (λ k. MetBefore Met Links xs ys (set xs' n a') (set ys' n b') k count') next
      (subst (λ d. MetBefore Met Links xs ys (set xs' n a') (set ys' n b') (suc n) d) (sym e) step)

  -- nodes of two farms
  pub met_not : (xs ys : List S) → length xs ≢ length ys → HaveMetAll xs ys xs ys 0 view
  met_not xs ys other = record {
    unlike = λ no. (refl, refl, refl);
    met = λ e. absurd (other e);
    counted = λ e. absurd (other e);
  }

  -- where the numbers are two the rooms are not the same
  pub none_one : (xs ys xs' ys' : List S) → length xs ≡ length ys → AreAll Met xs ys xs' ys' → AreAllStrange view xs ys → (k : ℕ) → k < length xs → IsOneAt view xs ys k → ⊥
  none_one xs ys xs' ys' long all apart k below one =
      let a = found xs k below in
      let b = found ys k (omega (arith, below, long)) in
      let a' = found xs' k (omega (arith, below, all.first)) in
      let b' = found ys' k (omega (arith, below, long, all.second)) in
      let met : Met a.0 b.0 a'.0 b'.0 = all.each k a.0 b.0 a'.0 b'.0 a.1 b.1 a'.1 b'.1 in
      apart k below a.0 b.0 a.1 b.1 (met.constants.number.0 (one a.0 b.0 a.1 b.1).constants)

  pub met_all : (xs ys xs' ys' : List S) (n count : ℕ) → length xs ≡ length ys → n ≡ length xs → MetBefore Met Links xs ys xs' ys' n count → HaveMetAll xs ys xs' ys' count view
  met_all xs ys xs' ys' n count long end before =
      let counted : IsCount (LinkAt view xs' ys') (length xs) count = subst (λ l. IsCount (LinkAt view xs' ys') l count) end before.counted in
      let each : (k : ℕ) (a b a' b' : S) → slice_get xs k ≡ Some a → slice_get ys k ≡ Some b → slice_get xs' k ≡ Some a' → slice_get ys' k ≡ Some b' → Met a b a' b' =
      λ k a b a' b' ea eb ea' eb'. before.each k a b a' b' (let within : k < length xs = slice_get_within xs k a ea in omega (arith, within, end)) ea eb ea' eb' in
      let all_met : AreAll Met xs ys xs' ys' = record { first = before.first; second = before.second; each = each } in
      record {
        unlike = λ no. absurd (no long);
        met = λ e. all_met;
        counted = λ e. counted;
      }

  -- ---- what follows where two nodes have met
  module _ (xs ys xs' ys' : List S) (count : ℕ) (have_met : HaveMetAll xs ys xs' ys' count view) where
    -- where all functions are counted both link each
    pub all_link : length xs ≡ length ys → count ≡ length xs → (k : ℕ) → k < length xs → LinkAt view xs' ys' k
    all_link alike all = each_counted (LinkAt view xs' ys') (length xs) count (have_met.counted alike) all

    -- of a function that both link they hold the same code
    pub same_code : length xs ≡ length ys → (k : ℕ) → LinkAt view xs' ys' k → IsAt (λ a b. HoldSameOffers (view a) (view b)) xs' ys' k
    same_code alike k link a' b' ea' eb' =
        let all : AreAll Met xs ys xs' ys' = have_met.met alike in
        let ea : slice_get xs k ≡ Some (get_or xs k a') = there xs xs' k a' all.first ea' in
        let eb : slice_get ys k ≡ Some (get_or ys k b') = there ys ys' k b' all.second eb' in
        same_held (view (get_or xs k a')) (view (get_or ys k b')) (view a') (view b') (all.each k (get_or xs k a') (get_or ys k b') a' b' ea eb ea' eb') (link a' b' ea' eb')

    -- where no function has the same four rooms none is counted
    pub uncounted : ((k : ℕ) → k < length xs → IsOneAt view xs ys k → ⊥) → count ≡ 0
    uncounted never = elim (cases_eq (length xs) (length ys)) [
      | inl alike ↦
          let all : AreAll Met xs ys xs' ys' = have_met.met alike in
          none_counted (LinkAt view xs' ys') (length xs) count (have_met.counted alike) (λ k below link. never k below (λ a b ea eb.
          let ea' : slice_get xs' k ≡ Some (get_or xs' k a) = there xs' xs k a (sym all.first) ea in
          let eb' : slice_get ys' k ≡ Some (get_or ys' k b) = there ys' ys k b (sym all.second) eb in
          same_rooms (view a) (view b) (view (get_or xs' k a)) (view (get_or ys' k b)) (all.each k a b (get_or xs' k a) (get_or ys' k b) ea eb ea' eb')
          (link (get_or xs' k a) (get_or ys' k b) ea' eb')))
      | inr other ↦ (have_met.unlike other).2
    ]

    -- and so it is with nodes of two farms, whose numbers tell them apart
    pub strangers_uncounted : AreAllStrange view xs ys → count ≡ 0
    strangers_uncounted apart = elim (cases_eq (length xs) (length ys)) [
      | inl alike ↦ uncounted (none_one xs ys xs' ys' alike (have_met.met alike) apart)
      | inr other ↦ (have_met.unlike other).2
    ]
