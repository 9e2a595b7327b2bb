-- What a refusal tells of a reading, and where.
use Rattle.std.specs.Prelude.{◌≡◌, ℕ, List, [], ◌∷◌, Option, Some, None, Result, Err}
use Rattle.c_syntax.specs.declared.token.Token.{Token}
use Rattle.c_reader_tokens.specs.declared.fault.Fault.{Fault}
use Rattle.c_reader_tokens.specs.declared.fault.Fault.TheVariants as F
use Rattle.c_reader.specs.declared.errors.ReadError.{ReadError}
use Rattle.c_reader.specs.declared.errors.ReadError.TheVariants as E

-- where the first token begins, 0 where there is none
abbrev pub begin_of : List Token → ℕ
begin_of [] = 0
begin_of (t ∷ ts) = t.start

-- a place that may be missing, or another in its stead
abbrev pub place_or : ℕ → Option ℕ → ℕ
place_or other None = other
place_or other (Some at) = at

-- What is told of a fault: a fault of syntax where the tokens end stands at their end, and what is too high at its
-- initial expression, or at the first token of its declaration.
abbrev pub error_of : Fault → Option ℕ → List Token → ℕ → ReadError
error_of F.NoMemory initial ts end = E.NoMemory
error_of (F.Syntax at) initial ts end = E.Syntax (place_or end at)
error_of F.TooDeep initial ts end = E.TooDeep (place_or (begin_of ts) initial)

-- The reading has this fault, of a text that ends here. Being out of memory tells nothing.
abbrev pub Tells : {A : Type 0} → ReadError → ℕ → Result A Fault → Type 0
Tells E.NoMemory end r = Unit {0}
Tells (E.Syntax at) end r = (o : Option ℕ) × (r ≡ Err (F.Syntax o)) × (at ≡ place_or end o)
Tells (E.TooDeep at) end r = r ≡ Err F.TooDeep
