-- A list's first item and the others, as a pattern of slices takes them apart.
use Rattle.std.proofs.Common.{◌≡◌, ℕ, ◌-◌, ◌<◌, ◌≤◌, List, [], ◌∷◌, length, take, drop, get_or, refl, sym, ap, ◌∙◌, arith}

abbrev pub others : {A : Type 0} → List A → List A
others xs = take (length xs - 1) (drop 1 xs)

whole : {A : Type 0} (xs : List A) (n : ℕ) → n ≡ length xs → take n xs ≡ xs
whole xs n e = ap (λ m. take m xs) e ∙ all xs
  where
    all : {A : Type 0} (ys : List A) → take (length ys) ys ≡ ys
    all [] = refl
    all (y ∷ ys) = ap (λ l. y ∷ l) (all ys)

pub first_others : {A : Type 0} (xs : List A) (x : A) → 1 ≤ length xs → x ≡ get_or xs 0 x → xs ≡ x ∷ others xs
first_others [] x some e = absurd (omega arith)
first_others (y ∷ ys) x some e = λ i. sym e i ∷ sym (whole ys (length (y ∷ ys) - 1) (omega arith)) i

pub fewer : {A : Type 0} (xs : List A) → 1 ≤ length xs → length (others xs) < length xs
fewer [] some = absurd (omega arith)
fewer (y ∷ ys) some = omega (arith, ap length (whole ys (length (y ∷ ys) - 1) (omega arith)))
