-- Lists that changed at one place, and at one place after the other.
use Rattle.std.proofs.Common.{◌≡◌, ◌≢◌, ℕ, zero, suc, ◌+◌, ◌<◌, ◌≤◌, List, [], ◌∷◌, length, map, set, get_or, Option, Some, None, Result, Ok, Err, OnOk, OnErr, refl, sym, ap, ◌∙◌, subst, arith, inl, inr}
use Rattle.std.specs.Prelude.{slice_get}
use Rattle.std.specs.Option.{option_map}
use Rattle.std.proofs.lemmas.Bool.{cases_eq, cases_lt}
use Rattle.std.proofs.lemmas.List.{length-map, length-set, map-set}
use Rattle.std.proofs.lemmas.Option.{slice_get-map, slice_get_read, slice_get_within}
use Rattle.farm_nodes_restart_seat.specs.Places.{AllChanged, ChangedAt}

pub get_set_other : {X : Type 0} (xs : List X) (i k : ℕ) (y : X) → k ≢ i → slice_get (set xs i y) k ≡ slice_get xs k
get_set_other [] i k y other = refl
get_set_other (x ∷ xs) zero zero y other = absurd (other refl)
get_set_other (x ∷ xs) zero (suc k) y other = refl
get_set_other (x ∷ xs) (suc i) zero y other = refl
get_set_other (x ∷ xs) (suc i) (suc k) y other = get_set_other xs i k y (λ e. other (ap suc e))

pub get_set_same : {X : Type 0} (xs : List X) (i : ℕ) (x y : X) → slice_get xs i ≡ Some x → slice_get (set xs i y) i ≡ Some y
get_set_same [] i x y there = absurd (cc)
get_set_same (z ∷ xs) zero x y there = refl
get_set_same (z ∷ xs) (suc i) x y there = get_set_same xs i x y there

pub some_same : {X : Type 0} (o : Option X) (x y : X) → o ≡ Some x → o ≡ Some y → x ≡ y
some_same o x y p q = let e : Some x ≡ Some y = sym p ∙ q in cc

-- what stands at a place within
pub there_is : {X : Type 0} (xs : List X) (i : ℕ) → i < length xs → (x : X) × (slice_get xs i ≡ Some x)
there_is [] i within = absurd (omega (arith, within))
there_is (x ∷ xs) zero within = (x, refl)
there_is (x ∷ xs) (suc i) within = there_is xs i (omega (arith, within))

-- the elements in front of i changed, and the others did not
pub record UpTo {X : Type 0} (Change : X → X → Type 0) (i : ℕ) (old new : List X) : Type 0 where
  pub count : length new ≡ length old
  pub each : (k : ℕ) (x y : X) → k < i → slice_get old k ≡ Some x → slice_get new k ≡ Some y → Change x y
  pub rest : (k : ℕ) → i ≤ k → slice_get new k ≡ slice_get old k

pub none_changed : {X : Type 0} (Change : X → X → Type 0) (xs : List X) → UpTo Change 0 xs xs
none_changed Change xs = record {
  count = refl;
  each = λ k x y below at_old at_new. absurd (omega (arith, below));
  rest = λ k above. refl;
}

pub one_more : {X : Type 0} (Change : X → X → Type 0) (i : ℕ) (old mid new : List X) → UpTo Change i old mid → ChangedAt Change i mid new → UpTo Change (i + 1) old new
one_more {X} Change i old mid new sofar here =
    record {
      count = ap length here.new_is ∙ (length-set mid i here.after ∙ sofar.count);
      each = each;
      rest = λ k above. is k ∙ (get_set_other mid i k here.after (λ e. absurd (omega (arith, e, above))) ∙ sofar.rest k (omega (arith, above)));
    }
  where
    is : (k : ℕ) → slice_get new k ≡ slice_get (set mid i here.after) k
    is k = ap (λ (l : List X). slice_get l k) here.new_is

    each : (k : ℕ) (x y : X) → k < i + 1 → slice_get old k ≡ Some x → slice_get new k ≡ Some y → Change x y
    each k x y below at_old at_new =
        elim (cases_eq k i) [
          | inl same ↦
              let at_mid : slice_get mid i ≡ Some x = sofar.rest i (omega arith) ∙ (ap (λ (j : ℕ). slice_get old j) (sym same) ∙ at_old) in
              let at_now : slice_get (set mid i here.after) i ≡ Some y = ap (λ (j : ℕ). slice_get (set mid i here.after) j) (sym same) ∙ (sym (is k) ∙ at_new) in
              let before : here.before ≡ x = some_same (slice_get mid i) here.before x here.there at_mid in
              let after : here.after ≡ y = some_same (slice_get (set mid i here.after) i) here.after y (get_set_same mid i here.before here.after here.there) at_now in
              subst (λ (v : X). Change v y) before (subst (λ (v : X). Change here.before v) after here.change)
          | inr other ↦ sofar.each k x y (let ne : k ≢ i = other in omega (arith, below, ne)) at_old (sym (get_set_other mid i k here.after other) ∙ (sym (is k) ∙ at_new))
        ]

pub all_changed : {X : Type 0} (Change : X → X → Type 0) (n : ℕ) (old new : List X) → length old ≤ n → UpTo Change n old new → AllChanged Change old new
all_changed {X} Change n old new most sofar = record {
  count = sofar.count;
  each = λ k x y at_old at_new. sofar.each k x y (omega (arith, most, slice_get_within old k x at_old)) at_old at_new;
}

-- of the elements as they are seen
pub seen_at : {S X : Type 0} (view : S → X) (xs : List S) (i : ℕ) (s : S) → slice_get xs i ≡ Some s → slice_get (map view xs) i ≡ Some (view s)
seen_at view xs i s there = slice_get-map view xs i ∙ ap (option_map view) there

pub changed_at : {S X : Type 0} (view : S → X) (Change : X → X → Type 0) (i : ℕ) (old new : List S) (s t : S) → slice_get old i ≡ Some s → new ≡ set old i t → Change (view s) (view t)
    → ChangedAt Change i (map view old) (map view new)
changed_at view Change i old new s t there is change = record {
  before = view s;
  after = view t;
  there = seen_at view old i s there;
  new_is = ap (map view) is ∙ map-set view old i t;
  change = change;
}

-- a place that is set to what is seen as the same
pub same_seen : {S X : Type 0} (view : S → X) (i : ℕ) (xs : List S) (s t : S) → slice_get xs i ≡ Some s → view t ≡ view s → map view (set xs i t) ≡ map view xs
same_seen view i [] s t there same = refl
same_seen view zero (x ∷ xs) s t there same = ap (λ v. v ∷ map view xs) (same ∙ sym (ap view (some_same (Some x) x s refl there)))
same_seen view (suc i) (x ∷ xs) s t there same = ap (λ vs. view x ∷ vs) (same_seen view i xs s t there same)

-- a place that was lent
pub lent_at : {S X : Type 0} (view : S → X) (xs : List S) (i j : ℕ) (x : X) (s : S) → i ≡ j → slice_get (map view xs) j ≡ Some x → s ≡ get_or xs i s → slice_get xs i ≡ Some s
lent_at view xs i j x s same there is =
    slice_get_read xs (length xs) i s refl (omega (arith, same, slice_get_within (map view xs) j x there, length-map xs view)) is

pub ok_changed_at : {S X A E : Type 0} (view : S → X) (Change : X → X → Type 0) (i j : ℕ) (old : List S) (s t : S) (told : Result A E) → i ≡ j → slice_get old i ≡ Some s
    → OnOk told (Change (view s) (view t)) → OnOk told (ChangedAt Change j (map view old) (map view (set old i t)))
ok_changed_at view Change i j old s t (Ok a) same there change = subst (λ (k : ℕ). ChangedAt Change k (map view old) (map view (set old i t))) same (changed_at view Change i old (set old i t) s t there refl change)
ok_changed_at view Change i j old s t (Err e) same there change = tt

pub err_same_seen : {S X A E : Type 0} (view : S → X) (i : ℕ) (old : List S) (s t : S) (told : Result A E) → slice_get old i ≡ Some s
    → OnErr told (view t ≡ view s) → OnErr told (map view (set old i t) ≡ map view old)
err_same_seen view i old s t (Ok a) there same = tt
err_same_seen view i old s t (Err e) there same = same_seen view i old s t there same
