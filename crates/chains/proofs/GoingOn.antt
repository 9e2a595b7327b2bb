-- The first functions' offers, and one more's.
use Rattle.std.proofs.Common.{◌≡◌, ℕ, zero, suc, ◌<◌, List, [], ◌∷◌, ◌++◌, length, take, get_or, refl, ap, subst, arith}
use Rattle.lang_base.specs.declared.program.Named as code
use Rattle.rtl_language.specs.Function.{FunctionData}
use Rattle.chains.specs.declared.offering.Offers.{Offers}
use Rattle.chains.specs.Offered.{GoOnFrom, AllGoOn}

pub go_on_next : (functions : List (code.Named FunctionData)) (n : ℕ) (all : List Offers) (f : code.Named FunctionData) (o : Offers)
    → n < length functions → f ≡ get_or functions n f → AllGoOn (take n functions) all → GoOnFrom f.function o
    → AllGoOn (take (suc n) functions) (all ++ o ∷ [])
go_on_next [] n all f o below e are is = absurd (omega (arith, below))
go_on_next (x ∷ functions) zero [] f o below e are is = (subst (λ g. GoOnFrom g.function o) e is, tt)
go_on_next (x ∷ functions) zero (p ∷ all) f o below e are is = absurd are
go_on_next (x ∷ functions) (suc n) [] f o below e are is = absurd are
go_on_next (x ∷ functions) (suc n) (p ∷ all) f o below e are is = (are.0, go_on_next functions n all f o (omega (arith, below)) e are.1 is)

-- there are as many offers as functions
pub as_many : (functions : List (code.Named FunctionData)) (offers : List Offers) → AllGoOn functions offers → length functions ≡ length offers
as_many [] [] all = refl
as_many [] (o ∷ offers) all = absurd all
as_many (f ∷ functions) [] all = absurd all
as_many (f ∷ functions) (o ∷ offers) all = ap suc (as_many functions offers all.1)
