-- The third outputs of the first functions, and one more.
use Rattle.std.proofs.Common.{◌≡◌, ℕ, zero, suc, ◌<◌, List, [], ◌∷◌, ◌++◌, length, take, get_or, map, refl, sym, ap, ◌∙◌, subst, arith}
use Rattle.std.specs.List.{AllByRecursion}
use Rattle.lang_base.specs.declared.program.Named.{Named}
use Rattle.rtl_language.specs.Function as rtl
use Rattle.ltl.specs.Function as ltl
use Rattle.chains.specs.Chains.{names_of}
use Rattle.chains.specs.declared.offering.Offers.{Offers}
use Rattle.chains.specs.Lent.{Chain, IsLent}
use Rattle.bundle_form.specs.declared.bundle.Bundle.{Bundle}
use Rattle.bundle_form.specs.declared.bundle.Texts.{Texts}
use Rattle.bundle_form.specs.Form.{bundle_text, IsBundle}
use Rattle.bundle_reading.specs.LentOffers.{lent_offers}
use Rattle.bundle_reading.specs.Texts.{IsBundleOf, OffersFit, bundle_with, texts_of}
use Rattle.cfarm_emit.specs.Made.{thirds_of}

abbrev third_of : Named rtl.FunctionData → Offers → Named ltl.FunctionData
third_of f o = record { name = f.name; function = o.allocation.output }

pub thirds_next : (fs : List (Named rtl.FunctionData)) (os : List Offers) (n : ℕ) (made : List (Named ltl.FunctionData)) (f : Named rtl.FunctionData) (o : Offers) (one : Named ltl.FunctionData)
    → n < length fs → n < length os → f ≡ get_or fs n f → o ≡ get_or os n o → made ≡ thirds_of (take n fs) (take n os) → one ≡ third_of f o
    → made ++ one ∷ [] ≡ thirds_of (take (suc n) fs) (take (suc n) os)
thirds_next [] os n made f o one below below' at at' e is = absurd (omega (arith, below))
thirds_next (x ∷ fs) [] n made f o one below below' at at' e is = absurd (omega (arith, below'))
thirds_next (x ∷ fs) (y ∷ os) zero made f o one below below' at at' e is =
    ap (λ m. m ++ one ∷ []) e ∙ ap (λ z. z ∷ []) (is ∙ ap (λ g. third_of g o) at ∙ ap (λ p. third_of x p) at')
thirds_next (x ∷ fs) (y ∷ os) (suc n) made f o one below below' at at' e is =
    ap (λ m. m ++ one ∷ []) e ∙ ap (λ rest. third_of x y ∷ rest) (thirds_next fs os n (thirds_of (take n fs) (take n os)) f o one (omega (arith, below)) (omega (arith, below')) at at' refl is)

-- they stand under the functions' names
pub thirds_names : (fs : List (Named rtl.FunctionData)) (os : List Offers) → length fs ≡ length os → names_of (thirds_of fs os) ≡ names_of fs
thirds_names [] os many = refl
thirds_names (x ∷ fs) [] many = absurd (omega (arith, many))
thirds_names (x ∷ fs) (y ∷ os) many = let rest : length fs ≡ length os = omega (arith, many) in ap (λ names. x.name ∷ names) (thirds_names fs os rest)

pub map_next : {A B : Type 0} (f : A → B) (made : List B) (one : B) (xs : List A) (n : ℕ) (x : A) → n < length xs → x ≡ get_or xs n x → made ≡ map f (take n xs) → one ≡ f x → made ++ one ∷ [] ≡ map f (take (suc n) xs)
map_next f made one [] n x below at e is = absurd (omega (arith, below))
map_next f made one (y ∷ xs) zero x below at e is = ap (λ m. m ++ one ∷ []) e ∙ ap (λ z. z ∷ []) (is ∙ ap f at)
map_next f made one (y ∷ xs) (suc n) x below at e is =
    ap (λ m. m ++ one ∷ []) e ∙ ap (λ rest. f y ∷ rest) (map_next f (map f (take n xs)) one xs n x (omega (arith, below)) at refl is)

-- ---- what holds of each, and of one more

pub all_push : {A : Type 0} (P : A → Type 0) (xs : List A) (x : A) → AllByRecursion P xs → P x → AllByRecursion P (xs ++ x ∷ [])
all_push P [] x all one = (one, tt)
all_push P (y ∷ xs) x all one = (all.0, all_push P xs x all.1 one)

pub all_taken : {A : Type 0} (P : A → Type 0) (xs : List A) (n : ℕ) (x : A) → n < length xs → x ≡ get_or xs n x → AllByRecursion P (take n xs) → P x → AllByRecursion P (take (suc n) xs)
all_taken P [] n x below at all one = absurd (omega (arith, below))
all_taken P (y ∷ xs) zero x below at all one = (subst P at one, tt)
all_taken P (y ∷ xs) (suc n) x below at all one = (all.0, all_taken P xs n x (omega (arith, below)) at all.1 one)

-- offers that are lent are the same offers
pub same_lent : (offers : Offers) (chain : Chain) → IsLent offers chain → lent_offers chain ≡ offers
same_lent offers chain is = λ i. record { constants = is.first i; expressions = is.second i; allocation = is.third i; order = is.fourth i }

-- the bundle of these offers is that of their texts
pub bundle_of : (bytes digest hash : List ℕ) (ts : List Texts) (offers : List Offers) → digest ≡ hash → ts ≡ map texts_of offers → AllByRecursion OffersFit offers
    → IsBundle (record { digest = digest; functions = ts }) → bytes ≡ bundle_text (record { digest = digest; functions = ts }) → IsBundleOf bytes hash offers
bundle_of bytes digest hash ts offers same texts fit form text =
    let given : Bundle = record { digest = digest; functions = ts } in
    let whole : given ≡ bundle_with hash offers = λ i. record { digest = same i; functions = texts i } in
    record { form = subst IsBundle whole form; fit = fit; text = text ∙ ap bundle_text whole }
