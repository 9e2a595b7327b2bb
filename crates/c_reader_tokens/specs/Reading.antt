-- Reading from the first token on: a value and the tokens behind it, or the first fault from the front.
use Rattle.std.specs.Prelude.{◌≡◌, List, [], ◌∷◌, ◌++◌, Some, None, Result, Ok, Err, ◌⊎◌, Bool, if◌then◌else◌}
use Rattle.c_syntax.specs.declared.token.Token.{Token}
use Rattle.c_syntax.specs.declared.token.TokenKind.{TokenKind}
use Rattle.c_reader_tokens.specs.declared.fault.Fault.{Fault}
use Rattle.c_reader_tokens.specs.declared.fault.Fault.TheVariants.{Syntax, TooDeep}

abbrev pub Reading : Type 0 → Type 0
Reading A = List Token → Result (A × List Token) Fault

infixl 10 ◌>>=◌
abbrev pub ◌>>=◌ : {A B : Type 0} → Result A Fault → (A → Result B Fault) → Result B Fault
(Ok x) >>= f = f x
(Err e) >>= f = Err e

-- the next token does not fit, or there is none
abbrev pub misfit : {A : Type 0} → List Token → Result A Fault
misfit [] = Err (Syntax None)
misfit (t ∷ ts) = Err (Syntax (Some t.start))

-- No fuel is left: where the next token could begin what is to be read, that would be too high.
abbrev pub deep : {A : Type 0} → (TokenKind → Bool) → Reading A
deep begins [] = misfit []
deep begins (t ∷ ts) = if begins t.kind then Err TooDeep else misfit (t ∷ ts)

-- Tokens that spell something are read, and the rest is left.
pub record Takes (IsSpelled : List Token → Type 0) (ts rest : List Token) : Type 0 where
  pub front : List Token
  pub spelled : IsSpelled front
  pub parts : ts ≡ front ++ rest

-- With more fuel the same is read, unless there was too little.
abbrev pub IsSameOrTooDeep : {A : Type 0} → Result A Fault → Result A Fault → Type 0
IsSameOrTooDeep less more = (less ≡ Err TooDeep) ⊎ (less ≡ more)
