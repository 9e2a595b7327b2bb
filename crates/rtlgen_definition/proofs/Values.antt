-- What the values of Cminor's expressions are made of.
use Rattle.std.proofs.Common.{◌≡◌, ℕ, ◌==◌, cond, List, [], ◌∷◌, Option, Some, None, refl, ap}
use Rattle.std.specs.Prelude.{slice_get, option_and_then}
use Rattle.rtl_acts.specs.Acts.{word_in}
use Rattle.cminor_syntax.specs.State.{cell}
use Rattle.cminor_syntax.specs.Acts.{pair_of}
use Rattle.cminor_syntax.specs.Evaluation.{word_of, defined, chosen, before}

pub same_value : (x y : Option ℕ) → Some x ≡ Some y → x ≡ y
same_value x y e = cc

-- a word that is there
pub defined_is : (o x : Option ℕ) → defined o ≡ Some x → (w : ℕ) × (o ≡ Some w) × (x ≡ Some w)
defined_is None x e = absurd cc
defined_is (Some w) x e = (w, refl, cc)

pub word_is : (v : Option (Option ℕ)) (w : ℕ) → word_of v ≡ Some w → v ≡ Some (Some w)
word_is None w e = absurd cc
word_is (Some x) w e = ap (λ y. Some y) e

-- a word that is needed
pub needed_is : (f : ℕ → Option ℕ) (v : Option (Option ℕ)) (w : ℕ) → option_and_then f (word_of v) ≡ Some w → (u : ℕ) × (v ≡ Some (Some u)) × (f u ≡ Some w)
needed_is f None w e = absurd cc
needed_is f (Some None) w e = absurd cc
needed_is f (Some (Some u)) w e = (u, refl, e)

-- a cell is found alike
pub cell_same : (globals : List (List ℕ)) (g i : ℕ) → word_in (slice_get globals g) i ≡ cell globals g i
cell_same globals g i = at (slice_get globals g)
  where
    at : (cells : Option (List ℕ)) → word_in cells i ≡ option_and_then (λ cells. slice_get cells i) cells
    at None = refl
    at (Some cells) = refl

pub pair_needed : (f : List ℕ → Option ℕ) (u v : Option (Option ℕ)) (w : ℕ) → option_and_then f (pair_of (word_of u) (word_of v)) ≡ Some w →
    (a : ℕ) × (b : ℕ) × (u ≡ Some (Some a)) × (v ≡ Some (Some b)) × (f (a ∷ b ∷ []) ≡ Some w)
pair_needed f None v w e = absurd cc
pair_needed f (Some None) v w e = absurd cc
pair_needed f (Some (Some a)) None w e = absurd cc
pair_needed f (Some (Some a)) (Some None) w e = absurd cc
pair_needed f (Some (Some a)) (Some (Some b)) w e = (a, b, refl, refl, e)

pub choice_needed : (v a b : Option (Option ℕ)) (x : Option ℕ) → chosen (word_of v) a b ≡ Some x → (w : ℕ) × (v ≡ Some (Some w)) × (cond (w == 0) b a ≡ Some x)
choice_needed None a b x e = absurd cc
choice_needed (Some None) a b x e = absurd cc
choice_needed (Some (Some w)) a b x e = (w, refl, e)

pub both_needed : (v : Option (Option ℕ)) (vs : Option (List (Option ℕ))) (xs : List (Option ℕ)) → before v vs ≡ Some xs →
    (y : Option ℕ) × (ys : List (Option ℕ)) × (v ≡ Some y) × (vs ≡ Some ys) × (y ∷ ys ≡ xs)
both_needed None vs xs e = absurd cc
both_needed (Some y) None xs e = absurd cc
both_needed (Some y) (Some ys) xs e = (y, ys, refl, refl, cc)
