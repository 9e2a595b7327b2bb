-- The parts of a bundle are forms: each text is read again, and nothing else is.
use Rattle.std.proofs.Common.{◌≡◌, ℕ, ◌<◌, ◌≤◌, ◌^◌, List, [], ◌∷◌, ◌++◌, length, Ok, refl, sym, ap, subst, ◌∙◌, arith}
use Rattle.std.specs.Int.{w32, to_be_bytes}
use Rattle.std.specs.List.{AllByRecursion, flat_map}
use Rattle.lang_base.specs.Reading.{Reading, byte, number, both, up_to, more, counted}
use Rattle.lang_base.specs.Texts.{counted_text, EachFits}
use Rattle.lang_base.proofs.Forms.{IsForm}
use Rattle.lang_base.proofs.Parts.{byte_form, number32_form, made_form, fits_form, up_to_form, both_form}
use Rattle.lang_base.proofs.Lists.{more_form, counted_form, each_fits, fits_each, tagged_form}
use Rattle.lang_helpers.specs.Limits.{function_limit}
use Rattle.bundle_form.specs.declared.bundle.Texts.{Texts}
use Rattle.bundle_form.specs.declared.bundle.Bundle.{Bundle}
use Rattle.bundle_form.specs.Form.{AreBytes, BlockFits, TextsFit, IsBundle, block_text, texts_text, bundle_text}
use Rattle.bundle_form.specs.Reading.{block, texts, functions, body, bundle}

abbrev byte_text : ℕ → List ℕ
byte_text n = n ∷ []

-- each byte stands for itself
bytes_text : (n : List ℕ) → flat_map byte_text n ≡ n
bytes_text [] = refl
bytes_text (b ∷ n) = ap (λ l. b ∷ l) (bytes_text n)

-- the same form, with its text written otherwise
text_form : {A : Type 0} {reading : Reading A} {text text' : A → List ℕ} {Fits : A → Type 0} → IsForm reading text Fits → ((x : A) → text x ≡ text' x) → IsForm reading text' Fits
text_form {reading = reading} form e = record {
  takes = λ bytes x rest are read. let t = form.takes bytes x rest are read in record { parts = t.parts ∙ ap (λ l. l ++ rest) (e x); fits = t.fits };
  again = λ x rest fits. subst (λ l. reading (l ++ rest) ≡ Ok (x, rest)) (e x) (form.again x rest fits);
}

-- ---- an offer's bytes

abbrev CountedFit : List ℕ → Type 0
CountedFit n = (length n < 2 ^ 32) × EachFits (λ before b. b < 256) [] n

counted_bytes : IsForm (counted (number w32) (λ before. byte)) (counted_text (to_be_bytes w32) byte_text) CountedFit
counted_bytes = counted_form (λ before. byte) byte_text (λ before b. b < 256) (λ before. byte_form) (number w32) (to_be_bytes w32) (λ n. n < 2 ^ 32) number32_form

block_form : IsForm block block_text BlockFits
block_form =
    fits_form (text_form counted_bytes (λ n. ap (λ l. to_be_bytes w32 (length n) ++ l) (bytes_text n)))
    (λ n fits. record { short = fits.0; bytes = each_fits (λ b. b < 256) [] n fits.1 })
    (λ n fits. (fits.short, fits_each (λ b. b < 256) [] n fits.bytes))

-- ---- the offers of a function

abbrev Blocks : Type 0
Blocks = List ℕ × (List ℕ × (List ℕ × List ℕ))

abbrev BlocksFit : Blocks → Type 0
BlocksFit p = BlockFits p.0 × (BlockFits p.1.0 × (BlockFits p.1.1.0 × BlockFits p.1.1.1))

abbrev blocks_text : Blocks → List ℕ
blocks_text p = block_text p.0 ++ (block_text p.1.0 ++ (block_text p.1.1.0 ++ block_text p.1.1.1))

abbrev last_two : Reading (List ℕ × List ℕ)
last_two = both block (λ allocation. block)

last_two_form : IsForm last_two (λ p. block_text p.0 ++ block_text p.1) (λ p. BlockFits p.0 × BlockFits p.1)
last_two_form = both_form block block_text BlockFits block_form (λ a. block) (λ a. block_text) (λ a. BlockFits) (λ a fits. block_form)

abbrev last_three : Reading (List ℕ × (List ℕ × List ℕ))
last_three = both block (λ expressions. last_two)

last_three_form : IsForm last_three (λ p. block_text p.0 ++ (block_text p.1.0 ++ block_text p.1.1)) (λ p. BlockFits p.0 × (BlockFits p.1.0 × BlockFits p.1.1))
last_three_form =
    both_form block block_text BlockFits block_form (λ a. last_two) (λ a p. block_text p.0 ++ block_text p.1) (λ a p. BlockFits p.0 × BlockFits p.1) (λ a fits. last_two_form)

blocks_form : IsForm (both block (λ constants. last_three)) blocks_text BlocksFit
blocks_form =
    both_form block block_text BlockFits block_form (λ a. last_three) (λ a p. block_text p.0 ++ (block_text p.1.0 ++ block_text p.1.1))
    (λ a p. BlockFits p.0 × (BlockFits p.1.0 × BlockFits p.1.1)) (λ a fits. last_three_form)

abbrev texts_of : Blocks → Texts
texts_of p = record { constants = p.0; expressions = p.1.0; allocation = p.1.1.0; order = p.1.1.1 }

texts_form : IsForm texts texts_text TextsFit
unfolding texts
texts_form =
    made_form texts_of blocks_form texts_text TextsFit
    (λ p fits. (refl, record { constants = fits.0; expressions = fits.1.0; allocation = fits.1.1.0; order = fits.1.1.1 }))
    (λ t fits. ((t.constants, (t.expressions, (t.allocation, t.order))), (fits.constants, (fits.expressions, (fits.allocation, fits.order))), refl))

-- ---- the functions

abbrev FunctionsFit : List Texts → Type 0
FunctionsFit ts = (length ts ≤ function_limit) × AllByRecursion TextsFit ts

abbrev functions_text : List Texts → List ℕ
functions_text ts = length ts ∷ flat_map texts_text ts

functions_form : IsForm functions functions_text FunctionsFit
unfolding functions
functions_form =
    fits_form (counted_form (λ before. texts) texts_text (λ before t. TextsFit t) (λ before. texts_form) (up_to function_limit byte) byte_text (λ n. n ≤ function_limit) (up_to_form function_limit byte_form (λ n le. omega arith)))
    (λ ts fits. (fits.0, each_fits TextsFit [] ts fits.1))
    (λ ts fits. (fits.0, fits_each TextsFit [] ts fits.1))

-- ---- the whole

abbrev DigestFits : List ℕ → Type 0
DigestFits d = (length d ≡ 32) × AreBytes d

digest_form : IsForm (more (λ before. byte) [] 32) (λ d. d) DigestFits
digest_form =
    fits_form (text_form (more_form (λ before. byte) byte_text (λ before b. b < 256) (λ before. byte_form) 32) bytes_text)
    (λ d fits. (fits.0, each_fits (λ b. b < 256) [] d fits.1))
    (λ d fits. (fits.0, fits_each (λ b. b < 256) [] d fits.1))

abbrev bundle_of : List ℕ × List Texts → Bundle
bundle_of p = record { digest = p.0; functions = p.1 }

abbrev body_text : Bundle → List ℕ
body_text b = b.digest ++ functions_text b.functions

body_form : IsForm body body_text IsBundle
unfolding body
body_form =
    made_form bundle_of
    (both_form (more (λ before. byte) [] 32) (λ d. d) DigestFits digest_form (λ d. functions) (λ d. functions_text) (λ d. FunctionsFit) (λ d fits. functions_form))
    body_text IsBundle
    (λ p fits. (refl, record { digest = fits.0.0; bytes = fits.0.1; few = fits.1.0; functions = fits.1.1 }))
    (λ b fits. ((b.digest, b.functions), ((fits.digest, fits.bytes), (fits.few, fits.functions)), refl))

pub bundle_form : IsForm bundle bundle_text IsBundle
unfolding bundle
bundle_form = tagged_form 67 (tagged_form 70 (tagged_form 66 (tagged_form 49 body_form)))
