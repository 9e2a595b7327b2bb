-- Registers that are saved, one by one.
use Rattle.std.proofs.Common.{◌≡◌, ℕ, ◌≤◌, Bool, true, false, List, [], ◌∷◌, ◌++◌, ◌+◌, length, refl, sym, ap, ◌∙◌, arith}
use Rattle.std.specs.Prelude.{if◌then◌else◌}
use Rattle.std.specs.List.{filter}
use Rattle.std.proofs.lemmas.List.{append_assoc}

abbrev kept_if : {A : Type 0} → Bool → A → List A → List A
kept_if b x xs = if b then x ∷ xs else xs

by_case : {A : Type 0} (b : Bool) (x : A) (xs : List A) → kept_if b x xs ≡ kept_if b x [] ++ xs
by_case true x xs = refl
by_case false x xs = refl

-- the first, and the others
pub one : {A : Type 0} (p : A → Bool) (x : A) (xs : List A) → filter p (x ∷ xs) ≡ filter p (x ∷ []) ++ filter p xs
one p x xs = by_case (p x) x (filter p xs)

pub four : {A : Type 0} (p : A → Bool) (a b c d : A) (s t u v : List A)
    → s ≡ filter p (a ∷ []) → t ≡ s ++ filter p (b ∷ []) → u ≡ t ++ filter p (c ∷ []) → v ≡ u ++ filter p (d ∷ [])
    → v ≡ filter p (a ∷ b ∷ c ∷ d ∷ [])
four p a b c d s t u v es et eu ev =
    let first = filter p (a ∷ []) in
    let bs = filter p (b ∷ []) in
    let cs = filter p (c ∷ []) in
    let ds = filter p (d ∷ []) in
    let whole : filter p (a ∷ b ∷ c ∷ d ∷ []) ≡ first ++ (bs ++ (cs ++ ds)) = one p a (b ∷ c ∷ d ∷ []) ∙ ap (λ x. first ++ x) (one p b (c ∷ d ∷ []) ∙ ap (λ x. bs ++ x) (one p c (d ∷ []))) in
    ev ∙ ap (λ x. x ++ ds) (eu ∙ ap (λ x. x ++ cs) (et ∙ ap (λ x. x ++ bs) es)) ∙ append_assoc (first ++ bs) cs ds ∙ append_assoc first bs (cs ++ ds) ∙ sym whole

few_if : {A : Type 0} (b : Bool) (x : A) (xs : List A) (n : ℕ) → length xs ≤ n → length (kept_if b x xs) ≤ n + 1
few_if true x xs n le = omega (arith, le)
few_if false x xs n le = omega (arith, le)

-- no more than there were
pub few : {A : Type 0} (p : A → Bool) (xs : List A) → length (filter p xs) ≤ length xs
few p [] = omega arith
few p (x ∷ xs) = omega (arith, few_if (p x) x (filter p xs) (length xs) (few p xs))
