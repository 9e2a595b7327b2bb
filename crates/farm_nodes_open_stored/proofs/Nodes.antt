-- One node more of which it is so, and each of those of which it is.
use Rattle.std.proofs.Common.{◌≡◌, ◌≢◌, ◌⊎◌, inl, inr, ℕ, zero, suc, ◌+◌, ◌<◌, List, [], ◌∷◌, ◌++◌, length, All, Some, refl, sym, ap, subst, ◌∙◌, arith}
use Rattle.std.specs.Prelude.{slice_get}
use Rattle.std.proofs.lemmas.Bool.{cases_eq}
use Rattle.std.proofs.lemmas.List.{length_push}
use Rattle.std.proofs.lemmas.List.Elements.{All-nil, All-cons, All-get_or}
use Rattle.std.proofs.lemmas.Option.{slice_get_within, get_or_from_slice_get}
use Rattle.farm_nodes_open_journals.proofs.Next.{in_more, in_front}
use Rattle.farm_nodes_open_stored.specs.Nodes.{AreMade, AllMade, AtNode, InFront}

-- there is something in front of the end
pub found_at : {X : Type 0} (xs : List X) (i : ℕ) → i < length xs → (x : X) × (slice_get xs i ≡ Some x)
found_at [] i low = absurd (omega (arith, low))
found_at (x ∷ xs) zero low = (x, refl)
found_at (x ∷ xs) (suc i) low = found_at xs i (omega (arith, low))

module _ {A B : Type 0} (Is : ℕ → A → B → Type 0) (given : List A) where
  pub none_made : (made : List B) → made ≡ [] → AreMade Is given 0 made
  none_made made none = record {
    count = ap length none;
    each = λ i x y got there. let bad : slice_get [] i ≡ Some y = ap (λ l. slice_get l i) (sym none) ∙ there in absurd (omega (arith, slice_get_within [] i y bad));
  }

  module _ (node : ℕ) (made more : List B) (x : A) (y : B) (front : AreMade Is given node made) (there : slice_get given node ≡ Some x) (now : Is node x y) (is : more ≡ made ++ y ∷ []) where
    one : (i : ℕ) (v : A) (w : B) → slice_get given i ≡ Some v → slice_get (made ++ y ∷ []) i ≡ Some w → Is i v w
    one i v w given_is got = on (cases_eq i node)
      where
        on : (i ≡ node) ⊎ (i ≢ node) → Is i v w
        on (inl same) =
            let last : (i ≡ length made) × (y ≡ w) = in_more made y w i got (λ low. omega (arith, low, same, front.count)) in
            let both : Some x ≡ Some v = sym there ∙ ap (λ n. slice_get given n) (sym same) ∙ given_is in
            let x_is : x ≡ v = cc in
            let of_w : Is node x w = subst (λ (z : B). Is node x z) last.1 now in
            let of_v : Is node v w = subst (λ (z : A). Is node z w) x_is of_w in
            subst (λ (n : ℕ). Is n v w) (sym same) of_v
        on (inr other) =
            let within : i < length (made ++ y ∷ []) = slice_get_within (made ++ y ∷ []) i w got in
            let low : i < length made = omega (arith, within, length_push made y, other, front.count) in
            front.each i v w given_is (sym (in_front made y i low) ∙ got)

    pub made_more : AreMade Is given (node + 1) more
    made_more = record {
      count = omega (arith, ap length is, length_push made y, front.count);
      each = λ i v w given_is got. one i v w given_is (ap (λ l. slice_get l i) (sym is) ∙ got);
    }

pub all_from : {X : Type 0} (P : X → Type 0) (xs : List X) → ((i : ℕ) (x : X) → slice_get xs i ≡ Some x → P x) → All P xs
all_from P [] holds = All-nil P
all_from P (x ∷ xs) holds = All-cons P x xs (holds 0 x refl) (all_from P xs (λ i y got. holds (suc i) y got))

pub all_at : {X : Type 0} (P : X → Type 0) (xs : List X) (i : ℕ) (x : X) → All P xs → slice_get xs i ≡ Some x → P x
all_at P xs i x all got = subst P (get_or_from_slice_get xs i x x got) (All-get_or P xs i x (slice_get_within xs i x got) all)

module _ {A B : Type 0} (Is : ℕ → A → B → Type 0) (given : List A) (made : List B) where
  module _ (node : ℕ) (are : AreMade Is given node made) where
    -- what can be made of each
    pub all_made : AllMade Is given node
    all_made i x low got =
        let found : (y : B) × (slice_get made i ≡ Some y) = found_at made i (omega (arith, low, are.count)) in
        (found.0, are.each i x found.0 got found.1)

    pub front_made : (P : A → Type 0) → ((i : ℕ) (x : A) (y : B) → Is i x y → P x) → InFront P node given
    front_made P holds i x low got =
        let found : (y : B) × (slice_get made i ≡ Some y) = found_at made i (omega (arith, low, are.count)) in
        holds i x found.0 (are.each i x found.0 got found.1)

  module _ (are : AreMade Is given (length given) made) where
    -- what it was made of
    given_at : (i : ℕ) (y : B) → slice_get made i ≡ Some y → (x : A) × (slice_get given i ≡ Some x) × Is i x y
    given_at i y got =
        let within : i < length made = slice_get_within made i y got in
        let there : (x : A) × (slice_get given i ≡ Some x) = found_at given i (omega (arith, within, are.count)) in
        (there.0, there.1, are.each i there.0 y there.1 got)

    pub all_of : (P : B → Type 0) → ((i : ℕ) (x : A) (y : B) → Is i x y → P y) → All P made
    all_of P holds =
        all_from P made (λ i y got. let x : (x : A) × (slice_get given i ≡ Some x) × Is i x y = given_at i y got in holds i x.0 y x.2)

    pub at_of : (P : ℕ → B → Type 0) (Q : ℕ → A → Type 0) (node : ℕ) → ((i : ℕ) (x : A) (y : B) → Is i x y → P i y → Q i x) → AtNode P node made → AtNode Q node given
    at_of P Q node holds at =
        let x : (x : A) × (slice_get given node ≡ Some x) × Is node x at.0 = given_at node at.0 at.1 in
        (x.0, x.1, holds node x.0 at.0 x.2 at.2)

    pub front_of : (P : B → Type 0) (Q : A → Type 0) (node : ℕ) → ((i : ℕ) (x : A) (y : B) → Is i x y → P y → Q x) → InFront P node made → InFront Q node given
    front_of P Q node holds front i x low got =
        let within : i < length given = slice_get_within given i x got in
        let found : (y : B) × (slice_get made i ≡ Some y) = found_at made i (omega (arith, within, are.count)) in
        holds i x found.0 (are.each i x found.0 got found.1) (front i found.0 low found.1)

    pub composed : {C : Type 0} (Next : ℕ → B → C → Type 0) (Both : ℕ → A → C → Type 0) (last : List C) → AreMade Next made (length made) last → ((i : ℕ) (x : A) (y : B) (z : C) → Is i x y → Next i y z → Both i x z) → AreMade Both given (length given) last
    composed {C} Next Both last more holds = record {
      count = more.count ∙ are.count;
      each = λ i x z got there.
          let within : i < length given = slice_get_within given i x got in
          let found : (y : B) × (slice_get made i ≡ Some y) = found_at made i (omega (arith, within, are.count)) in
          holds i x found.0 z (are.each i x found.0 got found.1) (more.each i found.0 z found.1 there);
    }

-- what can be made of all can be made of the first
pub all_first : {A B : Type 0} (Is : ℕ → A → B → Type 0) (given : List A) (node : ℕ) → AllMade Is given (length given) → AllMade Is given node
all_first Is given node all i x low got = all i x (slice_get_within given i x got) got
