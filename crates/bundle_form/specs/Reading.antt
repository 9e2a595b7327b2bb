-- How a bundle is read, from its first byte on.
use Rattle.std.specs.Prelude.{◌≡◌, ◌≢◌, ℕ, List, [], ◌∷◌, Result, Ok, Err}
use Rattle.std.specs.Int.{w32}
use Rattle.lang_base.specs.declared.errors.FormError.{FormError}
use Rattle.lang_base.specs.declared.errors.FormError.TheVariants.{NoMemory, NotCanonical}
use Rattle.lang_base.specs.Reading.{Reading, ◌>>=◌, byte, number, made, up_to, both, more, counted, tagged}
use Rattle.lang_helpers.specs.Limits.{function_limit}
use Rattle.bundle_form.specs.declared.bundle.Texts.{Texts}
use Rattle.bundle_form.specs.declared.bundle.Bundle.{Bundle}

-- an offer's bytes, behind their number
abbrev pub block : Reading (List ℕ)
block bytes = counted (number w32) (λ before. byte) bytes

-- the four offers of a function
unfoldable pub texts : Reading Texts
texts bytes =
    made (λ p. record { constants = p.0; expressions = p.1.0; allocation = p.1.1.0; order = p.1.1.1 })
    (both block (λ constants. both block (λ expressions. both block (λ allocation. block)))) bytes

-- those of all functions, behind their number
unfoldable pub functions : Reading (List Texts)
functions bytes = counted (up_to function_limit byte) (λ before. texts) bytes

-- the digest, and the functions
unfoldable pub body : Reading Bundle
body bytes = made (λ p. record { digest = p.0; functions = p.1 }) (both (more (λ before. byte) [] 32) (λ digest. functions)) bytes

-- `CFB1`, and what stands behind it
unfoldable pub bundle : Reading Bundle
bundle bytes = tagged 67 (tagged 70 (tagged 66 (tagged 49 body))) bytes

-- a value with nothing behind it; bytes behind it are another form's
abbrev pub alone : {A : Type 0} → A → List ℕ → Result A FormError
alone x [] = Ok x
alone x (b ∷ rest) = Err NotCanonical

-- all of the bytes
abbrev pub whole : {A : Type 0} → Reading A → List ℕ → Result A FormError
whole part bytes = do
  x ← part bytes
  alone x.0 x.1

-- What is answered is what was to be read, unless memory ran out.
abbrev pub Tells : {A : Type 0} → Result A FormError → Result A FormError → Type 0
Tells read (Ok x) = read ≡ Ok x
Tells read (Err e) = e ≢ NoMemory → read ≡ Err e
