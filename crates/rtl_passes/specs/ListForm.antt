-- The bytes of a certificate that has a list for each node: of each list its length and its parts.
use Rattle.std.proofs.Common.{◌≡◌, ℕ, ◌<◌, ◌^◌, List, [], length}
use Rattle.std.specs.Int.{w16, to_be_bytes}
use Rattle.std.specs.List.{AllByRecursion, flat_map}
use Rattle.lang_base.specs.Reading.{Reading, number, more, counted}
use Rattle.lang_base.specs.Texts.{counted_text}
use Rattle.lang_base.proofs.Forms.{IsForm}
use Rattle.lang_base.proofs.Parts.{number16_form, fits_form}
use Rattle.lang_base.proofs.Lists.{counted_form, more_form, each_fits, fits_each}

abbrev pub list_text : {A : Type 0} → (A → List ℕ) → List A → List ℕ
list_text text xs = counted_text (to_be_bytes w16) text xs

abbrev pub lists_text : {A : Type 0} → (A → List ℕ) → List (List A) → List ℕ
lists_text text xss = flat_map (list_text text) xss

-- a list that can be written
pub record ListFits {A : Type 0} (Fits : A → Type 0) (xs : List A) : Type 0 where
  pub few : length xs < 2 ^ 16
  pub each : AllByRecursion Fits xs

-- so many lists that can be written
pub record ListsFit {A : Type 0} (Fits : A → Type 0) (count : ℕ) (xss : List (List A)) : Type 0 where
  pub counted : length xss ≡ count
  pub each : AllByRecursion (ListFits Fits) xss

unfoldable pub list : {A : Type 0} → Reading A → Reading (List A)
list part bytes = counted (number w16) (λ before. part) bytes

unfoldable pub lists : {A : Type 0} → Reading A → ℕ → Reading (List (List A))
lists part count bytes = more (λ before. list part) [] count bytes

-- what is read is spelled so, and what is spelled so is read
pub list_form : {A : Type 0} {part : Reading A} {text : A → List ℕ} {Fits : A → Type 0} → IsForm part text Fits → IsForm (list part) (list_text text) (ListFits Fits)
unfolding list
list_form {part = part} {text} {Fits} form =
    fits_form (counted_form (λ before. part) text (λ before. Fits) (λ before. form) (number w16) (to_be_bytes w16) (λ n. n < 2 ^ 16) number16_form)
    (λ xs fits. record { few = fits.0; each = each_fits Fits [] xs fits.1 })
    (λ xs fits. (fits.few, fits_each Fits [] xs fits.each))

pub lists_form : {A : Type 0} {part : Reading A} {text : A → List ℕ} {Fits : A → Type 0} → IsForm part text Fits → (count : ℕ) → IsForm (lists part count) (lists_text text) (ListsFit Fits count)
unfolding lists
lists_form {part = part} {text} {Fits} form count =
    fits_form (more_form (λ before. list part) (list_text text) (λ before. ListFits Fits) (λ before. list_form form) count)
    (λ xss fits. record { counted = fits.0; each = each_fits (ListFits Fits) [] xss fits.1 })
    (λ xss fits. (fits.counted, fits_each (ListFits Fits) [] xss fits.each))
