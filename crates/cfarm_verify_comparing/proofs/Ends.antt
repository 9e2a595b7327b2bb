-- What offers come to, at each place.
use Rattle.std.proofs.Common.{◌≡◌, ℕ, zero, suc, ◌<◌, ◌≤◌, List, [], ◌∷◌, length, take, get_or, refl, sym, ap, arith}
use Rattle.lang_base.specs.declared.program.Named.{Named}
use Rattle.rtl_language.specs.Function as rtl
use Rattle.linear_language.specs.Function as linear
use Rattle.bundle_reading.specs.Chains.{names_of}
use Rattle.bundle_reading.specs.Offered.{ends_of}
use Rattle.bundle_reading.specs.declared.four.Four.{Four}
use Rattle.bundle_reading.specs.Read.{offers_in}

-- as many as the functions, under their names
pub ends_many : (functions : List (Named rtl.FunctionData)) (fours : List Four) → length fours ≡ length functions → length (ends_of functions (offers_in fours)) ≡ length functions
ends_many [] fours many = refl
ends_many (f ∷ functions) [] many = absurd (omega (arith, many))
ends_many (f ∷ functions) (four ∷ fours) many = ap suc (ends_many functions fours (omega (arith, many)))

pub ends_named : (functions : List (Named rtl.FunctionData)) (fours : List Four) → length fours ≡ length functions → names_of (ends_of functions (offers_in fours)) ≡ names_of functions
ends_named [] fours many = refl
ends_named (f ∷ functions) [] many = absurd (omega (arith, many))
ends_named (f ∷ functions) (four ∷ fours) many = ap (λ names. f.name ∷ names) (ends_named functions fours (omega (arith, many)))

-- each the last output of its offers
pub end_at : (functions : List (Named rtl.FunctionData)) (fours : List Four) (n : ℕ) (four : Four) (d : Named linear.FunctionData)
    → length fours ≡ length functions → n < length functions → four ≡ get_or fours n four → (get_or (ends_of functions (offers_in fours)) n d).function ≡ four.order.output
end_at [] fours n four d many below is = absurd (omega (arith, below))
end_at (f ∷ functions) [] n four d many below is = absurd (omega (arith, many))
end_at (f ∷ functions) (x ∷ fours) zero four d many below is = ap (λ y. y.order.output) (sym is)
end_at (f ∷ functions) (x ∷ fours) (suc n) four d many below is = end_at functions fours n four d (omega (arith, many)) (omega (arith, below)) is

-- what stands at a place that is there
pub at_any : {A : Type 0} (xs : List A) (n : ℕ) (d e : A) → n < length xs → get_or xs n d ≡ get_or xs n e
at_any [] n d e below = absurd (omega (arith, below))
at_any (x ∷ xs) zero d e below = refl
at_any (x ∷ xs) (suc n) d e below = at_any xs n d e (omega (arith, below))

-- all of a list that is no longer
pub whole : {A : Type 0} (n : ℕ) (xs : List A) → length xs ≤ n → take n xs ≡ xs
whole zero [] le = refl
whole zero (x ∷ xs) le = absurd (omega (arith, le))
whole (suc n) [] le = refl
whole (suc n) (x ∷ xs) le = ap (λ l. x ∷ l) (whole n xs (omega (arith, le)))
