-- What is found of each function, at its number.
use Rattle.std.proofs.Common.{◌≡◌, ◌≢◌, ℕ, zero, suc, ◌<◌, List, [], ◌∷◌, ◌++◌, length, take, get_or, map, Err, ◌∙◌, subst, arith}
use Rattle.std.specs.List.{AllByRecursion}
use Rattle.lang_base.specs.declared.errors.FormError.{FormError}
use Rattle.lang_base.specs.declared.errors.FormError.TheVariants as form
use Rattle.bundle_form.specs.declared.bundle.Texts.{Texts}
use Rattle.bundle_offers.specs.Offers.{Offers}
use Rattle.bundle_reading.specs.declared.four.Four.{Four}
use Rattle.bundle_reading.specs.Read.{AreRead, IsFound, IsRead}
use Rattle.bundle_reading.specs.Texts.{HaveNoOffers, OffersFit, texts_of}

-- one more function's parts
pub read_next : (ts : List Texts) (fours : List Four) (n : ℕ) (t : Texts) (four : Four) → n < length ts → t ≡ get_or ts n t → IsRead t four
    → AreRead (take n ts) fours → AreRead (take (suc n) ts) (fours ++ four ∷ [])
read_next [] fours n t four below at is before = absurd (omega (arith, below))
read_next (u ∷ ts) [] zero t four below at is before = (subst (λ x. IsRead x four) at is, tt)
read_next (u ∷ ts) (x ∷ fours) zero t four below at is before = absurd before
read_next (u ∷ ts) [] (suc n) t four below at is before = absurd before
read_next (u ∷ ts) (x ∷ fours) (suc n) t four below at is before = (before.0, read_next ts fours n t four (omega (arith, below)) at is before.1)

-- a function whose texts spell no offers
pub none_at : (ts : List Texts) (n : ℕ) (t : Texts) (fault : FormError) → n < length ts → t ≡ get_or ts n t → IsFound t (Err fault) → fault ≢ form.NoMemory → HaveNoOffers ts
none_at [] n t fault below at none memory offers fit same = absurd (omega (arith, below))
none_at (u ∷ ts) n t fault below at none memory [] fit same = absurd (cc same)
none_at (u ∷ ts) zero t fault below at none memory (o ∷ offers) fit same = let head : u ≡ texts_of o = cc same in none memory o fit.0 (at ∙ head)
none_at (u ∷ ts) (suc n) t fault below at none memory (o ∷ offers) fit same =
    let rest : ts ≡ map texts_of offers = cc same in none_at ts n t fault (omega (arith, below)) at none memory offers fit.1 rest
