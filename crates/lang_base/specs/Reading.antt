-- Reading a form from its first byte on: a value and the bytes behind it, or the first fault in the
-- order of the bytes. And the parts that forms are made of.
use Rattle.std.specs.Prelude.{◌≡◌, ◌≢◌, ℕ, zero, suc, Bool, List, [], ◌∷◌, ◌++◌, length, take, drop, Option, Some, None, Result, Ok, Err, nat_lt, nat_le, ◌==◌, if◌then◌else◌}
use Rattle.std.specs.Global.{Vec}
use Rattle.std.specs.Option.{ok_or}
use Rattle.std.specs.Int.{Width, byte_len, from_be_bytes}
use Rattle.lang_base.specs.declared.errors.FormError.{FormError}
use Rattle.lang_base.specs.declared.errors.FormError.TheVariants.{NoMemory, Short, BadTag, NotCanonical, TooLarge}

abbrev pub Reading : Type 0 → Type 0
Reading A = List ℕ → Result (A × List ℕ) FormError

infixl 10 ◌>>=◌
abbrev pub ◌>>=◌ : {A B : Type 0} → Result A FormError → (A → Result B FormError) → Result B FormError
(Ok x) >>= f = f x
(Err e) >>= f = Err e

-- What a reader returned, and the bytes that are left, are what was to be read.
abbrev pub IsRead : {A : Type 0} → Result (A × List ℕ) FormError → Result A FormError → List ℕ → Type 0
IsRead read (Ok x) rest = read ≡ Ok (x, rest)
IsRead read (Err e) rest = read ≡ Err e

-- The same, unless memory ran out.
abbrev pub Reads : {A : Type 0} → Result (A × List ℕ) FormError → Result A FormError → List ℕ → Type 0
Reads read (Ok x) rest = read ≡ Ok (x, rest)
Reads read (Err e) rest = e ≢ NoMemory → read ≡ Err e

-- a vector, as the list of its items
abbrev pub items_of : {A : Type 0} → Result (Vec A) FormError → Result (List A) FormError
items_of (Ok v) = Ok v.items
items_of (Err e) = Err e

-- a byte
abbrev pub byte : Reading ℕ
byte [] = Err Short
byte (b ∷ rest) = Ok (b, rest)

-- a number of a width, its highest byte first
abbrev pub number : Width → Reading ℕ
number w bytes = if nat_lt (length bytes) (byte_len w) then Err Short else Ok (from_be_bytes w (take (byte_len w) bytes), drop (byte_len w) bytes)

-- a part, and what is made of it where it is not refused
abbrev pub checked : {A B : Type 0} → (A → Result B FormError) → Reading A → Reading B
checked check part bytes = do
  x ← part bytes
  y ← check x.0
  Ok (y, x.1)

-- a part made into another value
abbrev pub made : {A B : Type 0} → (A → B) → Reading A → Reading B
made make part bytes = checked (λ x. Ok (make x)) part bytes

-- a part that passes a test; where it does not, this fault
abbrev pub tested : {A : Type 0} → (A → Bool) → FormError → Reading A → Reading A
tested test fault part bytes = checked (λ x. if test x then Ok x else Err fault) part bytes

-- a part that stands for another value, or for none
abbrev pub decoded : {A B : Type 0} → (A → Option B) → Reading A → Reading B
decoded decode part bytes = checked (λ x. ok_or (decode x) NotCanonical) part bytes

-- a number below a bound
abbrev pub below : ℕ → Reading ℕ → Reading ℕ
below bound part bytes = tested (λ n. nat_lt n bound) NotCanonical part bytes

-- a count up to a limit
abbrev pub up_to : ℕ → Reading ℕ → Reading ℕ
up_to limit part bytes = tested (λ n. nat_le n limit) TooLarge part bytes

-- one part, and behind it another that depends on it
abbrev pub both : {A B : Type 0} → Reading A → (A → Reading B) → Reading (A × B)
both first second bytes = do
  x ← first bytes
  y ← second x.0 x.1
  Ok ((x.0, y.0), y.1)

-- Behind those before, so many more of a kind; each may depend on those that it stands behind.
abbrev pub more : {A : Type 0} → (List A → Reading A) → List A → ℕ → Reading (List A)
more part before zero bytes = Ok (before, bytes)
more part before (suc n) bytes = do
  x ← part before bytes
  more part (before ++ x.0 ∷ []) n x.1

-- a count, and so many of a kind
abbrev pub counted : {A : Type 0} → Reading ℕ → (List A → Reading A) → Reading (List A)
counted count part bytes = do
  n ← count bytes
  more part [] n.0 n.1

-- what follows each code
abbrev pub Table : Type 0 → Type 0
Table A = List (ℕ × Reading A)

-- what follows a code: its row in the table, or what is read behind other codes
abbrev pub follow : {A : Type 0} → Table A → (ℕ → Reading A) → ℕ → Reading A
follow [] other code bytes = other code bytes
follow (row ∷ rows) other code bytes = if row.0 == code then row.1 bytes else follow rows other code bytes

-- no other code is known
abbrev pub unknown : {A : Type 0} → ℕ → Reading A
unknown code bytes = Err NotCanonical

-- a code, and what follows it
abbrev pub coded : {A : Type 0} → (ℕ → Reading A) → Reading A
coded behind bytes = do
  code ← byte bytes
  behind code.0 code.1

-- nothing behind 0, or a part behind 1; another flag is no form
abbrev pub nothing : {A : Type 0} → Reading (Option A)
nothing bytes = Ok (None, bytes)

abbrev pub optional : {A : Type 0} → Reading A → Reading (Option A)
optional part bytes = coded (follow ((0, nothing) ∷ (1, made (λ x. Some x) part) ∷ []) unknown) bytes

-- the tag of a language, and a form behind it
abbrev pub tagged : {A : Type 0} → ℕ → Reading A → Reading A
tagged tag form bytes = do
  b ← byte bytes
  if b.0 == tag then form b.1 else Err BadTag
