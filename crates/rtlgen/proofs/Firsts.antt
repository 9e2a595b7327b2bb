-- The first function that needs too many nodes.
use Rattle.std.proofs.Math.Seq.{take-suc}
use Rattle.std.proofs.lemmas.List.{map-append}
use Rattle.std.proofs.Common.{◌+◌, ◌++◌, add-one, ◌≡◌, ◌≤◌, ◌<◌, ℕ, zero, suc, List, [], ◌∷◌, length, take, get_or, map, refl, sym, ap, subst, ◌∙◌, arith}
use Rattle.std.specs.Prelude.{All}
use Rattle.std.proofs.lemmas.List.Elements.{All-head, All-tail}
use Rattle.lang_base.specs.declared.program.Named.{Named}
use Rattle.cminor_syntax.specs.Trees.{FunctionTree}
use Rattle.rtlgen_definition.specs.Gen.{HasTooManyNodes}
use Rattle.rtlgen.specs.Refused.{HasFewNodes, IsFirstTooLarge}

pub whole : {A : Type 0} (xs : List A) (n : ℕ) → length xs ≤ n → take n xs ≡ xs
whole [] zero some = refl
whole [] (suc n) some = refl
whole (x ∷ xs) zero some = absurd (omega arith)
whole (x ∷ xs) (suc n) some = ap (λ l. x ∷ l) (whole xs n (omega arith))

pub first_is : (fs : List (Named FunctionTree)) (i : ℕ) (f : Named FunctionTree) → i < length fs → f ≡ get_or fs i f → All HasFewNodes (take i fs) →
    HasTooManyNodes f.function → IsFirstTooLarge fs i
first_is [] i f lt e few large = absurd (omega arith)
first_is (g ∷ gs) zero f lt e few large = subst (λ h. HasTooManyNodes h.function) e large
first_is (g ∷ gs) (suc i) f lt e few large =
    (All-head HasFewNodes g (take i gs) few, first_is gs i f (omega arith) e (All-tail HasFewNodes g (take i gs) few) large)

-- one item more, and what it is translated to
pub one_more : {A B : Type 0} (change : A → B) (xs : List A) (ys zs : List B) (i : ℕ) (x : A) (y : B) → i < length xs → x ≡ get_or xs i x →
    ys ≡ map change (take i xs) → y ≡ change x → zs ≡ ys ++ y ∷ [] → zs ≡ map change (take (i + 1) xs)
one_more change xs ys zs i x y lt at same is pushed =
    let longer : take (i + 1) xs ≡ take i xs ++ x ∷ [] = ap (λ n. take n xs) (add-one i) ∙ take-suc xs i x lt ∙ ap (λ w. take i xs ++ w ∷ []) (sym at) in
    pushed ∙ (λ k. same k ++ is k ∷ []) ∙ sym (map-append change (take i xs) (x ∷ [])) ∙ ap (map change) (sym longer)
