-- Equalities that tell values apart exactly.
use Rattle.std.proofs.Common.{◌≡◌, Bool, true, false, [], ◌∷◌, Option, Some, None, refl, sym, ap, subst, ◌∙◌}
use Rattle.std.specs.Prelude.{◌↔◌, nat_eq}
use Rattle.std.specs.Cmp.{IsEquivalence}
use Rattle.std.specs.Cmp.Lexicographic.{pointwise}
use Rattle.std.proofs.lemmas.Bool.{eqb-true, and_parts, false≢true}

-- what is called equal is one
abbrev pub Tells : {A : Type 0} → (A → A → Bool) → Type 0
Tells {A} eq = (a b : A) → eq a b ≡ true → a ≡ b

-- and so an equality decides
pub tells_decides : {A : Type 0} {eq : A → A → Bool} → IsEquivalence eq → Tells eq → (a b : A) → (eq a b ≡ true) ↔ (a ≡ b)
tells_decides {eq = eq} laws tells a b = (tells a b, λ same. subst (λ x. eq a x ≡ true) same (laws.refl a))

pub lists_tell : {A : Type 0} (eq : A → A → Bool) → Tells eq → Tells (pointwise eq)
lists_tell eq tells [] [] e = refl
lists_tell eq tells [] (y ∷ ys) e = absurd (false≢true e)
lists_tell eq tells (x ∷ xs) [] e = absurd (false≢true e)
lists_tell eq tells (x ∷ xs) (y ∷ ys) e = let p = and_parts (eq x y) (pointwise eq xs ys) e in λ i. tells x y p.0 i ∷ lists_tell eq tells xs ys p.1 i

-- what tells none from some, and two by an equality of theirs
pub options_tell : {A : Type 0} (eq : A → A → Bool) (same : Option A → Option A → Bool) → Tells eq → ((b : A) → same None (Some b) ≡ false) → ((a : A) → same (Some a) None ≡ false) → ((a b : A) → same (Some a) (Some b) ≡ eq a b) → Tells same
options_tell eq same tells behind before both None None e = refl
options_tell eq same tells behind before both None (Some b) e = absurd (false≢true (sym (behind b) ∙ e))
options_tell eq same tells behind before both (Some a) None e = absurd (false≢true (sym (before a) ∙ e))
options_tell eq same tells behind before both (Some a) (Some b) e = ap (λ x. Some x) (tells a b (sym (both a b) ∙ e))

pub number_tells : Tells nat_eq
number_tells a b e = eqb-true a b e
