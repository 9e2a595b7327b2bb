-- Lists that are mapped, one element more.
use Rattle.std.proofs.Common.{◌≡◌, ℕ, zero, suc, ◌<◌, List, [], ◌∷◌, ◌++◌, map, length, take, get_or, refl, sym, ap, ◌∙◌, arith}

push_map : {A C : Type 0} (f : A → C) (xs : List A) (x : A) → map f (xs ++ x ∷ []) ≡ map f xs ++ f x ∷ []
push_map f [] x = refl
push_map f (y ∷ xs) x = ap (λ l. f y ∷ l) (push_map f xs x)

take_map : {B C : Type 0} (g : B → C) (ys : List B) (n : ℕ) (y : B) → n < length ys → y ≡ get_or ys n y
    → map g (take (suc n) ys) ≡ map g (take n ys) ++ g y ∷ []
take_map g [] n y below is = absurd (omega (arith, below))
take_map g (z ∷ ys) zero y below is = ap (λ w. g w ∷ []) (sym is)
take_map g (z ∷ ys) (suc n) y below is = ap (λ l. g z ∷ l) (take_map g ys n y (omega (arith, below)) is)

pub map_next : {A B C : Type 0} (f : A → C) (g : B → C) (xs : List A) (x : A) (ys : List B) (n : ℕ) (y : B)
    → n < length ys → y ≡ get_or ys n y → map f xs ≡ map g (take n ys) → f x ≡ g y → map f (xs ++ x ∷ []) ≡ map g (take (suc n) ys)
map_next f g xs x ys n y below is same e =
    push_map f xs x ∙ ((λ i. same i ++ e i ∷ []) ∙ sym (take_map g ys n y below is))
