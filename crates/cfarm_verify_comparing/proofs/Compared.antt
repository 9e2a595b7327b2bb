-- Functions compared in order.
use Rattle.std.proofs.Common.{◌≡◌, ◌≢◌, ℕ, zero, suc, ◌<◌, List, [], ◌∷◌, length, take, drop, get_or, sym, ap, ◌∙◌, arith}
use Rattle.lang_base.specs.declared.program.Named.{Named}
use Rattle.cfarm_verify_comparing.specs.Compared.{IsFirstOther}

-- a function of the same name that differs, behind those that are the same
pub other_at : {F : Type 0} (fs gs : List (Named F)) (n : ℕ) (f g : Named F) → n < length fs → n < length gs → f ≡ get_or fs n f → g ≡ get_or gs n g → g.function ≢ f.function → take n gs ≡ take n fs → IsFirstOther fs gs n
other_at [] gs n f g below below' at at' other before = absurd (omega (arith, below))
other_at (a ∷ fs) [] n f g below below' at at' other before = absurd (omega (arith, below'))
other_at (a ∷ fs) (b ∷ gs) zero f g below below' at at' other before = λ e. other (ap (λ h. h.function) at' ∙ e ∙ sym (ap (λ h. h.function) at))
other_at (a ∷ fs) (b ∷ gs) (suc n) f g below below' at at' other before =
    let head : b ≡ a = ap (λ l. get_or l 0 a) before in
    (ap (λ h. h.function) head, other_at fs gs n f g (omega (arith, below)) (omega (arith, below')) at at' other (ap (drop 1) before))

-- that function is one of them
pub other_below : {F : Type 0} (fs gs : List (Named F)) (n : ℕ) → IsFirstOther fs gs n → n < length fs
other_below [] gs n is = absurd is
other_below (f ∷ fs) [] n is = absurd is
other_below (f ∷ fs) (g ∷ gs) zero is = omega arith
other_below (f ∷ fs) (g ∷ gs) (suc n) is = let less = other_below fs gs n is.1 in omega (arith, less)
