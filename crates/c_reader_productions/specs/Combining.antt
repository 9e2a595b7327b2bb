-- How readings are put together, in the order of the productions.
use Rattle.std.specs.Prelude.{ℕ, suc, zero, Bool, List, [], ◌∷◌, length, Option, Some, None, Result, Ok, if◌then◌else◌}
use Rattle.c_syntax.specs.declared.punctuator.Punctuator.TheVariants.{Comma}
use Rattle.c_syntax.specs.declared.token.Token.{Token}
use Rattle.c_reader_tokens.specs.declared.fault.Fault.{Fault}
use Rattle.c_reader_tokens.specs.Reading.{Reading, ◌>>=◌}
use Rattle.c_reader_tokens.specs.Peeking.{is_sign_next}
use Rattle.c_reader_tokens.specs.Tokens.{sign}

-- a sign or a word, which has no value
abbrev pub Mark : Type 0
Mark = List Token → Result (List Token) Fault

-- a mark, and a part behind it
infixr 15 ◌▷◌
abbrev pub ◌▷◌ : {A : Type 0} → Mark → Reading A → Reading A
(mark ▷ part) ts = do
  rest ← mark ts
  part rest

-- a part, and a mark behind it
infixr 15 ◌◁◌
abbrev pub ◌◁◌ : {A : Type 0} → Reading A → Mark → Reading A
(part ◁ mark) ts = do
  x ← part ts
  rest ← mark x.1
  Ok (x.0, rest)

-- a mark, and another behind it
abbrev pub marks : Mark → Mark → Mark
marks first second ts = do
  rest ← first ts
  second rest

-- a part, and another behind it
infixr 15 ◌&◌
abbrev pub ◌&◌ : {A B : Type 0} → Reading A → Reading B → Reading (A × B)
(first & second) ts = do
  x ← first ts
  y ← second x.1
  Ok ((x.0, y.0), y.1)

-- a part made into another value
abbrev pub made : {A B : Type 0} → (A → B) → Reading A → Reading B
made make part ts = do
  x ← part ts
  Ok (make x.0, x.1)

-- one part where a test of the tokens holds, and another where not
abbrev pub either : {A : Type 0} → (List Token → Bool) → Reading A → Reading A → Reading A
either passes part other ts = if passes ts then part ts else other ts

-- no part at all
abbrev pub missing : {A : Type 0} → Reading (Option A)
missing ts = Ok (None, ts)

-- a part that may be missing
abbrev pub there : {A : Type 0} → Reading A → Reading (Option A)
there part ts = made (λ x. Some x) part ts

-- parts as long as a test holds, so many at most
unfoldable pub repeated : {A : Type 0} → (List Token → Bool) → Reading A → (limit : ℕ) → Reading (List A)
repeated goes part zero ts = Ok ([], ts)
repeated goes part (suc limit) ts = either goes (made (λ v. v.0 ∷ v.1) (part & repeated goes part limit)) (λ rest. Ok ([], rest)) ts

-- There are no more parts than tokens.
abbrev pub each : {A : Type 0} → (List Token → Bool) → Reading A → Reading (List A)
each goes part ts = repeated goes part (length ts) ts

-- parts with a comma between each two
unfoldable pub commas : {A : Type 0} → Reading A → Reading (List A)
commas part ts = made (λ v. v.0 ∷ v.1) (part & each (is_sign_next Comma) (sign Comma ▷ part)) ts
