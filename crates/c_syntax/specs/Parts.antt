-- The parts that productions of the grammar are made of. A production says of a list of tokens whether it is
-- spelled by it: the whole list, and no front of it.
use Rattle.std.specs.Prelude.{◌≡◌, ℕ, List, [], ◌∷◌, ◌++◌, Option, Some, None, ◌⊎◌}
use Rattle.c_syntax.specs.declared.constant.Constant.{Constant}
use Rattle.c_syntax.specs.declared.constant.IntegerType.{IntegerType}
use Rattle.c_syntax.specs.declared.constant.IntegerType.TheVariants.{Int, Unsigned}
use Rattle.c_syntax.specs.declared.keyword.Keyword.{Keyword}
use Rattle.c_syntax.specs.declared.keyword.Keyword.TheVariants as K
use Rattle.c_syntax.specs.declared.punctuator.Punctuator.{Punctuator}
use Rattle.c_syntax.specs.declared.punctuator.Punctuator.TheVariants.{Comma}
use Rattle.c_syntax.specs.declared.token.Token.{Token}
use Rattle.c_syntax.specs.declared.token.TokenKind.{TokenKind}
use Rattle.c_syntax.specs.declared.token.TokenKind.TheVariants as T
use Rattle.c_syntax.specs.declared.identifier.Identifier.{Identifier}

-- one token of this kind
abbrev pub One : TokenKind → List Token → Type 0
One kind ts = (t : Token) × (t.kind ≡ kind) × (ts ≡ t ∷ [])

-- one token of this kind that begins at this offset
abbrev pub OneAt : TokenKind → ℕ → List Token → Type 0
OneAt kind at ts = (t : Token) × (t.kind ≡ kind) × (t.start ≡ at) × (ts ≡ t ∷ [])

abbrev pub Sign : Punctuator → List Token → Type 0
Sign p = One (T.Punctuator p)

abbrev pub Word : Keyword → List Token → Type 0
Word k = One (T.Keyword k)

abbrev pub IsConstant : Constant → List Token → Type 0
IsConstant c = One (T.Constant c)

abbrev pub IsName : Identifier → List Token → Type 0
IsName x = OneAt (T.Name x.name) x.offset

-- one part, and behind it another
infixr 20 ◌⨾◌
abbrev pub ◌⨾◌ : (List Token → Type 0) → (List Token → Type 0) → List Token → Type 0
(P ⨾ Q) ts = (xs ys : List Token) × P xs × Q ys × (ts ≡ xs ++ ys)

-- a part that begins at this offset
abbrev pub BeginsAt : ℕ → List Token → Type 0
BeginsAt at [] = ⊥
BeginsAt at (t ∷ ts) = t.start ≡ at

abbrev pub PlacedAt : ℕ → (List Token → Type 0) → List Token → Type 0
PlacedAt at P ts = P ts × BeginsAt at ts

-- no token at all
abbrev pub Nothing : List Token → Type 0
Nothing ts = ts ≡ []

-- a part that may be missing
abbrev pub Perhaps : {A : Type 0} → (A → List Token → Type 0) → Option A → List Token → Type 0
Perhaps P None = Nothing
Perhaps P (Some x) = P x

-- parts with a comma between each two
abbrev pub Commas : {A : Type 0} → (A → List Token → Type 0) → List A → List Token → Type 0
Commas P [] = Nothing
Commas P (x ∷ []) = P x
Commas P (x ∷ y ∷ ys) = P x ⨾ Sign Comma ⨾ Commas P (y ∷ ys)

-- type = "int" | "unsigned" [ "int" ]
abbrev pub IsType : IntegerType → List Token → Type 0
IsType Int ts = Word K.Int ts
IsType Unsigned ts = Word K.Unsigned ts ⊎ (Word K.Unsigned ⨾ Word K.Int) ts
