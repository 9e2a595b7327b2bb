-- Texts read function by function.
use Rattle.std.proofs.Common.{◌≡◌, ◌≢◌, ℕ, suc, List, [], ◌∷◌, ◌++◌, Result, Ok, Err, Some, length, drop, get_or, refl, sym, ap, ◌∙◌, subst, append-nil, append_assoc, arith}
use Rattle.std.specs.Prelude.{map, slice_get}
use Rattle.std.specs.List.{AllByRecursion}
use Rattle.lang_base.specs.declared.errors.FormError.{FormError}
use Rattle.lang_base.specs.declared.errors.FormError.TheVariants.{NoMemory}
use Rattle.chains.specs.declared.offering.Offers.{Offers}
use Rattle.chains.specs.Lent.{OfConstants, OfExpressions, OfAllocation, OfOrder}
use Rattle.lang_base.proofs.Forms.{one_text}
use Rattle.bundle_form.specs.declared.bundle.Bundle.{Bundle}
use Rattle.bundle_form.specs.declared.bundle.Texts.{Texts}
use Rattle.bundle_form.specs.Form.{IsBundle, bundle_text}
use Rattle.bundle_form.proofs.Forms.{bundle_form}
use Rattle.bundle_reading.specs.declared.four.Four.{Four}
use Rattle.bundle_reading.specs.Texts.{FirstFits, FourthFits, HasNoBundle, HasNoOffers, HaveNoOffers, IsBundleOf, OffersFit, SecondFits, ThirdFits, bundle_with, first_text, fourth_text, second_text, texts_of, third_text}
use Rattle.bundle_reading.specs.Read.{both_of, four_found, four_in, offers_in, IsFound, IsFoundAt, IsRead, IsText, AreFound, AreRead}

-- what is found of all four texts
pub four_read : (t : Texts) (one : Result OfConstants FormError) (two : Result OfExpressions FormError) (three : Result OfAllocation FormError) (four : Result OfOrder FormError)
    → IsText FirstFits first_text t.constants one → IsText SecondFits second_text t.expressions two → IsText ThirdFits third_text t.allocation three → IsText FourthFits fourth_text t.order four
    → IsFound t (four_found (both_of one two) (both_of three four))
four_read t (Ok one) (Ok two) (Ok three) (Ok four) first second third fourth = record {
  text = λ i. record { constants = first.1 i; expressions = second.1 i; allocation = third.1 i; order = fourth.1 i };
  fits = record { constants = first.0; expressions = second.0; allocation = third.0; order = fourth.0 };
}
four_read t (Ok one) (Ok two) (Ok three) (Err fault) first second third none = λ memory o fits e. none memory o.order fits.order (ap (λ u. u.order) e)
four_read t (Ok one) (Ok two) (Err fault) four first second none fourth = λ memory o fits e. none memory o.allocation fits.allocation (ap (λ u. u.allocation) e)
four_read t (Ok one) (Err fault) three four first none third fourth = λ memory o fits e. none memory o.expressions fits.expressions (ap (λ u. u.expressions) e)
four_read t (Err fault) two three four none second third fourth = λ memory o fits e. none memory o.constants fits.constants (ap (λ u. u.constants) e)

-- of four that were found each was
ok_is : (found : Result Four FormError) (x y : Four) → found ≡ Ok x → found ≡ Ok y → x ≡ y
ok_is found x y e e' = cc

pub each_found : (one : Result OfConstants FormError) (two : Result OfExpressions FormError) (three : Result OfAllocation FormError) (four : Result OfOrder FormError) (parts : Four)
    → four_found (both_of one two) (both_of three four) ≡ Ok parts → (one ≡ Ok parts.constants) × (two ≡ Ok parts.expressions) × (three ≡ Ok parts.allocation) × (four ≡ Ok parts.order)
each_found (Ok one) (Ok two) (Ok three) (Ok four) parts e =
    let all : Four = record { constants = one; expressions = two; allocation = three; order = four } in
    let is = ok_is (Ok all) all parts refl e in
    (λ i. Ok ((is i).constants), λ i. Ok ((is i).expressions), λ i. Ok ((is i).allocation), λ i. Ok ((is i).order))
each_found (Ok one) (Ok two) (Ok three) (Err fault) parts e = absurd cc
each_found (Ok one) (Ok two) (Err fault) four parts e = absurd cc
each_found (Ok one) (Err fault) three four parts e = absurd cc
each_found (Err fault) two three four parts e = absurd cc

-- what is found at each place is found of all
pub all_found : {T : Type 0} (ts : List Texts) (found : List (Result (Four × T) FormError)) → length found ≡ length ts
    → ((i : ℕ) (one : Result (Four × T) FormError) → slice_get found i ≡ Some one → IsFoundAt ts i (four_in one)) → AreFound ts (map four_in found)
all_found [] [] many each = tt
all_found [] (f ∷ found) many each = absurd (omega (arith, many))
all_found (t ∷ ts) [] many each = absurd (omega (arith, many))
all_found (t ∷ ts) (f ∷ found) many each = (each 0 f refl t refl, all_found ts found (omega (arith, many)) (λ i one e. each (suc i) one e))

-- so far the first functions' parts were read, and of the others is found what is left
pub record Gathered (ts : List Texts) (fours : List Four) (left : List (Result Four FormError)) : Type 0 where
  pub front : List Texts
  pub behind : List Texts
  pub split : ts ≡ front ++ behind
  pub read : AreRead front fours
  pub found : AreFound behind left

pub begun : (ts : List Texts) (found : List (Result Four FormError)) → AreFound ts found → Gathered ts [] found
begun ts found are = record { front = []; behind = ts; split = refl; read = tt; found = are }

more_read : (ts : List Texts) (fours : List Four) (t : Texts) (four : Four) → AreRead ts fours → IsRead t four → AreRead (ts ++ t ∷ []) (fours ++ four ∷ [])
more_read [] [] t four are is = (is, tt)
more_read [] (y ∷ fours) t four are is = absurd are
more_read (x ∷ ts) [] t four are is = absurd are
more_read (x ∷ ts) (y ∷ fours) t four are is = (are.0, more_read ts fours t four are.1 is)

-- one more
gathers_from : (ts front behind : List Texts) (fours : List Four) (four : Four) (left : List (Result Four FormError)) → ts ≡ front ++ behind → AreRead front fours → AreFound behind (Ok four ∷ left)
    → Gathered ts (fours ++ four ∷ []) left
gathers_from ts front [] fours four left split read found = absurd found
gathers_from ts front (t ∷ behind) fours four left split read found = record {
  front = front ++ t ∷ [];
  behind = behind;
  split = split ∙ sym (append_assoc front (t ∷ []) behind);
  read = more_read front fours t four read found.0;
  found = found.1;
}

pub gathers : (ts : List Texts) (fours : List Four) (four : Four) (left : List (Result Four FormError)) → Gathered ts fours (Ok four ∷ left) → Gathered ts (fours ++ four ∷ []) left
gathers ts fours four left so_far = gathers_from ts so_far.front so_far.behind fours four left so_far.split so_far.read so_far.found

-- a function whose texts spell no parts
in_front : (front behind : List Texts) (t : Texts) → HasNoOffers t → (offers : List Offers) → AllByRecursion OffersFit offers → front ++ t ∷ behind ≢ map texts_of offers
in_front [] behind t none [] fits e = absurd cc
in_front [] behind t none (o ∷ offers) fits e = none o fits.0 (ap (λ l. get_or l 0 t) e)
in_front (x ∷ front) behind t none [] fits e = absurd cc
in_front (x ∷ front) behind t none (o ∷ offers) fits e = in_front front behind t none offers fits.1 (ap (drop 1) e)

none_behind : (ts front behind : List Texts) (fault : FormError) (left : List (Result Four FormError)) → ts ≡ front ++ behind → AreFound behind (Err fault ∷ left) → fault ≢ NoMemory → HaveNoOffers ts
none_behind ts front [] fault left split found memory = absurd found
none_behind ts front (t ∷ behind) fault left split found memory = λ offers fits e. in_front front behind t (found.0 memory) offers fits (sym split ∙ e)

pub none_among : (ts : List Texts) (fours : List Four) (fault : FormError) (left : List (Result Four FormError)) → Gathered ts fours (Err fault ∷ left) → fault ≢ NoMemory → HaveNoOffers ts
none_among ts fours fault left so_far memory = none_behind ts so_far.front so_far.behind fault left so_far.split so_far.found memory

-- all of them
all_in_front : (ts front behind : List Texts) (fours : List Four) → ts ≡ front ++ behind → AreRead front fours → AreFound behind [] → AreRead ts fours
all_in_front ts front [] fours split read found = subst (λ l. AreRead l fours) (sym (split ∙ append-nil front)) read
all_in_front ts front (t ∷ behind) fours split read found = absurd found

pub all_gathered : (ts : List Texts) (fours : List Four) → Gathered ts fours [] → AreRead ts fours
all_gathered ts fours so_far = all_in_front ts so_far.front so_far.behind fours so_far.split so_far.read so_far.found

-- what was read is what the texts are
pub texts_read : (ts : List Texts) (fours : List Four) → AreRead ts fours → ts ≡ map texts_of (offers_in fours)
texts_read [] [] are = refl
texts_read [] (y ∷ fours) are = absurd are
texts_read (x ∷ ts) [] are = absurd are
texts_read (x ∷ ts) (y ∷ fours) are = λ i. are.0.text i ∷ texts_read ts fours are.1 i

pub fits_read : (ts : List Texts) (fours : List Four) → AreRead ts fours → AllByRecursion OffersFit (offers_in fours)
fits_read [] [] are = tt
fits_read [] (y ∷ fours) are = absurd are
fits_read (x ∷ ts) [] are = absurd are
fits_read (x ∷ ts) (y ∷ fours) are = (are.0.fits, fits_read ts fours are.1)

-- ---- the bundle that they stand in

pub bundle_read : (bytes : List ℕ) (found : Bundle) (fours : List Four) → IsBundle found → bytes ≡ bundle_text found → AreRead found.functions fours → IsBundleOf bytes found.digest (offers_in fours)
bundle_read bytes found fours form spelled are =
    let texts = texts_read found.functions fours are in
    let same : found ≡ bundle_with found.digest (offers_in fours) = λ i. record { digest = found.digest; functions = texts i } in
    record { form = subst IsBundle same form; fit = fits_read found.functions fours are; text = spelled ∙ ap bundle_text same }

pub none_bundled : (bytes : List ℕ) (found : Bundle) → IsBundle found → bytes ≡ bundle_text found → HaveNoOffers found.functions → HasNoBundle bytes
none_bundled bytes found form spelled none digest offers is =
    let same = (one_text bundle_form found (bundle_with digest offers) [] [] form is.form (ap (λ l. l ++ []) (sym spelled ∙ is.text))).0 in
    none offers is.fit (ap (λ b. b.functions) same)
