-- Offers put down one after another, each as that of its room's function.
use Rattle.std.proofs.Common.{◌≡◌, inl, inr, ℕ, ◌+◌, ◌/◌, ◌<◌, ◌≤◌, cond, eqb, List, [], ◌∷◌, ◌++◌, length, get_or, take, drop, min, All, Option, Some, None, refl, sym, ap, ◌∙◌, arith}
use Rattle.std.specs.Prelude.{slice_get}
use Rattle.std.proofs.lemmas.Bool.{eq-eqb, ne_eqb, cases_eq}
use Rattle.std.proofs.lemmas.List.{length-set, length-take, length-drop, get_or-set_same, get_or-set_other, drop_more, take_more, take_all}
use Rattle.std.proofs.lemmas.Option.{slice_get-get_or, slice_get_read, get_or_from_slice_get}
use Rattle.farm_nodes_open_offers.specs.Known.{last_in, placed}

-- what stands last in a function once one more is there
pub last_more : {T : Type 0} → (f : ℕ) (given : Option T) (rooms : List ℕ) (xs : List T) (room : ℕ) (x : T) → length rooms ≡ length xs → last_in f given (rooms ++ room ∷ []) (xs ++ x ∷ []) ≡ cond (eqb (room / 4) f) (Some x) (last_in f given rooms xs)
last_more f given [] [] room x same = refl
last_more f given [] (y ∷ ys) room x same = absurd (omega (arith, same))
last_more f given (m ∷ ms) [] room x same = absurd (omega (arith, same))
last_more f given (m ∷ ms) (y ∷ ys) room x same =
    last_more f (cond (eqb (m / 4) f) (Some y) given) ms ys room x (omega (arith, same))

-- they are the offers of functions: of each the last that stands there
pub record Stand {T : Type 0} (functions : ℕ) (rooms : List ℕ) (xs : List T) (offers : List (Option T)) : Type 0 where
  pub count : length offers ≡ functions
  pub each : (f : ℕ) → f < functions → slice_get offers f ≡ Some (last_in f None rooms xs)

module _ {T : Type 0} (functions : ℕ) (rooms : List ℕ) (xs : List T) (offers : List (Option T)) (same : length rooms ≡ length xs) (stand : Stand functions rooms xs offers) (room : ℕ) (x : T) where
  after : (f : ℕ) → f < functions → slice_get (placed offers room x) f ≡ Some (last_in f None (rooms ++ room ∷ []) (xs ++ x ∷ []))
  after f below =
      let size = stand.count in
      let got : slice_get (placed offers room x) f ≡ Some (get_or (placed offers room x) f None) = slice_get-get_or (placed offers room x) f None (omega (arith, length-set offers (room / 4) (Some x))) in
      let more = last_more f None rooms xs room x same in
      elim (cases_eq f (room / 4)) [
        | inl here ↦
            let value : get_or (placed offers room x) f None ≡ Some x = ap (λ k. get_or (placed offers room x) k None) here ∙ get_or-set_same offers (room / 4) (Some x) None (omega arith) in
            let chosen : cond (eqb (room / 4) f) (Some x) (last_in f None rooms xs) ≡ Some x = ap (λ t. cond t (Some x) (last_in f None rooms xs)) (eq-eqb (room / 4) f (sym here)) in
            got ∙ ap (λ y. Some y) (value ∙ sym (more ∙ chosen))
        | inr other ↦
            let value : get_or (placed offers room x) f None ≡ get_or offers f None = get_or-set_other offers (room / 4) f (Some x) None other in
            let chosen : cond (eqb (room / 4) f) (Some x) (last_in f None rooms xs) ≡ last_in f None rooms xs = ap (λ t. cond t (Some x) (last_in f None rooms xs)) (ne_eqb (room / 4) f (λ e. other (sym e))) in
            got ∙ ap (λ y. Some y) (value ∙ get_or_from_slice_get offers f (last_in f None rooms xs) None (stand.each f below) ∙ sym (more ∙ chosen))
      ]

  pub stand_more : Stand functions (rooms ++ room ∷ []) (xs ++ x ∷ []) (placed offers room x)
  stand_more = record { count = length-set offers (room / 4) (Some x) ∙ stand.count; each = after }

-- the first of what is left of a list
pub record IsNext {X : Type 0} (xs : List X) (i : ℕ) (x : X) (rest : List X) : Type 0 where
  pub within : i < length xs
  pub is : x ≡ get_or xs i x
  pub got : slice_get xs i ≡ Some x
  pub left : rest ≡ drop (i + 1) xs
  pub front : take (i + 1) xs ≡ take i xs ++ x ∷ []

pub next_of : {X : Type 0} (xs : List X) (i : ℕ) (x : X) (rest : List X) → drop i xs ≡ x ∷ rest → IsNext xs i x rest
next_of xs i x rest e =
    let within : i < length xs = omega (arith, length-drop i xs, ap length e) in
    let both : x ∷ rest ≡ get_or xs i x ∷ drop (i + 1) xs = sym e ∙ drop_more xs i x within in
    let is : x ≡ get_or xs i x = cc in
    record {
      within = within;
      is = is;
      got = slice_get_read xs (length xs) i x refl within is;
      left = cc;
      front = take_more xs i x within ∙ ap (λ y. take i xs ++ y ∷ []) (sym is);
    }

-- the same, of lists that are so
pub stand_on : {T : Type 0} (functions : ℕ) (rooms more : List ℕ) (xs ys : List T) (offers next : List (Option T)) (room : ℕ) (x y : T) → length rooms ≡ length xs → Stand functions rooms xs offers → more ≡ rooms ++ room ∷ [] → ys ≡ xs ++ x ∷ [] → next ≡ placed offers room y → y ≡ x → Stand functions more ys next
stand_on functions rooms more xs ys offers next room x y same stand more_is ys_is next_is y_is =
    let after = stand_more functions rooms xs offers same stand room x in
    let now : next ≡ placed offers room x = next_is ∙ ap (placed offers room) y_is in
    record {
      count = ap length now ∙ after.count;
      each = λ f below. ap (λ os. slice_get os f) now ∙ after.each f below ∙ ap (λ ms. Some (last_in f None ms (xs ++ x ∷ []))) (sym more_is) ∙ ap (λ zs. Some (last_in f None more zs)) (sym ys_is);
    }

-- of all of them, where the loop has come to the end
pub stand_whole : {T : Type 0} (functions : ℕ) (rooms : List ℕ) (xs : List T) (offers : List (Option T)) (i : ℕ) → length rooms ≡ length xs → length xs ≤ i → Stand functions (take i rooms) (take i xs) offers → Stand functions rooms xs offers
stand_whole functions rooms xs offers i same end stand = record {
  count = stand.count;
  each = λ f below. stand.each f below ∙ ap (λ ms. Some (last_in f None ms (take i xs))) (take_all i rooms (omega arith)) ∙ ap (λ zs. Some (last_in f None rooms zs)) (take_all i xs end);
}

-- as many rooms as offers in front
pub fronts_same : {T : Type 0} (rooms : List ℕ) (xs : List T) (i : ℕ) → length rooms ≡ length xs → length (take i rooms) ≡ length (take i xs)
fronts_same rooms xs i same = length-take i rooms ∙ ap (λ n. min i n) same ∙ sym (length-take i xs)

-- none of any function
pub stand_none : {T : Type 0} (functions : ℕ) (offers : List (Option T)) → length offers ≡ functions → All (λ (o : Option T). o ≡ None) offers → Stand functions [] [] offers
stand_none functions offers size none = record {
  count = size;
  each = λ f below. slice_get-get_or offers f None (omega arith) ∙ ap (λ o. Some o) (none f None (omega arith));
}
