-- The first functions have other names, or one has this name.
use Rattle.std.proofs.Common.{◌≡◌, ◌≢◌, ℕ, zero, suc, ◌<◌, List, [], ◌∷◌, length, take, get_or, refl, sym, ap, ◌∙◌, subst, arith}
use Rattle.lang_base.specs.declared.program.Named.{Named}
use Rattle.cfarm_judge.specs.Under.{HasNone, IsPlaceOf, IsUnder, IsUnderAt}

-- one function more that has another name
pub none_next : {F : Type 0} (fs : List (Named F)) (name : List ℕ) (n : ℕ) (f : Named F) → n < length fs → f ≡ get_or fs n f → f.name ≢ name → HasNone (take n fs) name → HasNone (take (suc n) fs) name
none_next [] name n f below at other before = absurd (omega (arith, below))
none_next (g ∷ fs) name zero f below at other before = (λ e. other (ap (λ h. h.name) at ∙ e), tt)
none_next (g ∷ fs) name (suc n) f below at other before = (before.0, none_next fs name n f (omega (arith, below)) at other before.1)

-- a function of this name behind those of other names
pub stands_under : {F : Type 0} (fs : List (Named F)) (name : List ℕ) (n : ℕ) (f : Named F) → n < length fs → f ≡ get_or fs n f → f.name ≡ name → HasNone (take n fs) name → IsPlaceOf fs name n
stands_under [] name n f below at e before = absurd (omega (arith, below))
stands_under (g ∷ fs) name zero f below at e before = (g.function, (sym (ap (λ h. h.name) at) ∙ e, refl))
stands_under (g ∷ fs) name (suc n) f below at e before =
    let rest = stands_under fs name n f (omega (arith, below)) at e before.1 in (rest.0, (before.0, rest.1))

under_below : {F : Type 0} (fs : List (Named F)) (name : List ℕ) (n : ℕ) (f : F) → IsUnderAt fs name f n → n < length fs
under_below [] name n f is = absurd is
under_below (g ∷ fs) name zero f is = omega arith
under_below (g ∷ fs) name (suc n) f is = let less = under_below fs name n f is.1 in omega (arith, less)

-- it is one of them
pub place_below : {F : Type 0} (fs : List (Named F)) (name : List ℕ) (n : ℕ) → IsPlaceOf fs name n → n < length fs
place_below fs name n is = under_below fs name n is.0 is.1

-- it is the one of its number
under_same : {F : Type 0} (fs : List (Named F)) (name : List ℕ) (n : ℕ) (f : Named F) (h : F) → f ≡ get_or fs n f → IsUnderAt fs name h n → h ≡ f.function
under_same [] name n f h at is = absurd is
under_same (g ∷ fs) name zero f h at is = sym (ap (λ x. x.function) at ∙ is.1)
under_same (g ∷ fs) name (suc n) f h at is = under_same fs name n f h at is.1

pub under_at : {F : Type 0} (fs : List (Named F)) (name : List ℕ) (n : ℕ) (f : Named F) → f ≡ get_or fs n f → IsPlaceOf fs name n → IsUnder fs name f.function
under_at fs name n f at is = (n, subst (λ h. IsUnderAt fs name h n) (under_same fs name n f is.0 at is.1) is.1)

-- there is one
pub one_under : {F : Type 0} (fs : List (Named F)) (name : List ℕ) (i j : ℕ) (f g : F) → IsUnderAt fs name f i → IsUnderAt fs name g j → f ≡ g
one_under [] name i j f g is are = absurd is
one_under (h ∷ fs) name zero zero f g is are = sym is.1 ∙ are.1
one_under (h ∷ fs) name zero (suc j) f g is are = absurd (are.0 is.0)
one_under (h ∷ fs) name (suc i) zero f g is are = absurd (is.0 are.0)
one_under (h ∷ fs) name (suc i) (suc j) f g is are = one_under fs name i j f g is.1 are.1

-- or none
pub none_under : {F : Type 0} (fs : List (Named F)) (name : List ℕ) (i : ℕ) (f : F) → HasNone fs name → IsUnderAt fs name f i → ⊥
none_under [] name i f none is = is
none_under (h ∷ fs) name zero f none is = none.0 is.0
none_under (h ∷ fs) name (suc i) f none is = none_under fs name i f none.1 is.1
