-- Where the parts of the grammar end.
use Rattle.std.proofs.Common.{◌≡◌, cond, false, List, [], ◌∷◌, ◌++◌, refl, sym, ap, ◌∙◌, append_assoc, inl, inr}
use Rattle.c_syntax.specs.declared.constant.IntegerType.{IntegerType}
use Rattle.c_syntax.specs.declared.constant.IntegerType.TheVariants.{Int, Unsigned}
use Rattle.c_syntax.specs.declared.identifier.Identifier.{Identifier}
use Rattle.c_syntax.specs.declared.keyword.Keyword.{Keyword}
use Rattle.c_syntax.specs.declared.keyword.Keyword.TheVariants as K
use Rattle.c_syntax.specs.declared.punctuator.Punctuator.{Punctuator}
use Rattle.c_syntax.specs.declared.token.Token.{Token}
use Rattle.c_syntax.specs.declared.token.TokenKind.{TokenKind}
use Rattle.c_syntax.specs.declared.token.TokenKind.TheVariants as V
use Rattle.c_syntax.specs.Parts.{One, OneAt, Sign, Word, IsName, ◌⨾◌, IsType, Nothing}
use Rattle.c_faults_tokens.specs.Tokens.{next, is_int, without_int, behind_type}

-- a part that is spelled so ends where this goes
pub record Ends (P : List Token → Type 0) (f : List Token → List Token) : Type 0 where
  pub at : (ts rest : List Token) → P ts → f (ts ++ rest) ≡ rest

pub one-ends : (kind : TokenKind) → Ends (One kind) next
one-ends kind = record { at = λ ts rest h. ap (λ l. next (l ++ rest)) h.2 }

pub at-ends : (kind : TokenKind) (at : _) → Ends (OneAt kind at) next
at-ends kind at = record { at = λ ts rest h. ap (λ l. next (l ++ rest)) h.3 }

pub sign-ends : (p : Punctuator) → Ends (Sign p) next
sign-ends p = one-ends (V.Punctuator p)

pub word-ends : (k : Keyword) → Ends (Word k) next
word-ends k = one-ends (V.Keyword k)

pub name-ends : (x : Identifier) → Ends (IsName x) next
name-ends x = at-ends (V.Name x.name) x.offset

pub nothing-ends : Ends Nothing (λ ts. ts)
nothing-ends = record { at = λ ts rest h. ap (λ l. l ++ rest) h }

pub then-ends : {P Q : List Token → Type 0} {f g : List Token → List Token} → Ends P f → Ends Q g → Ends (P ⨾ Q) (λ ts. g (f ts))
then-ends {f = f} {g = g} p q = record {
  at = λ ts rest h.
      ap (λ l. g (f (l ++ rest))) h.4 ∙ ap (λ l. g (f l)) (append_assoc h.0 h.1 rest) ∙ ap g (p.at h.0 (h.1 ++ rest) h.2) ∙ q.at h.1 rest h.3;
}

-- the same under a condition
pub guarded-ends : {A : Type 0} {Q : List Token → Type 0} {f : List Token → List Token} → Ends Q f → Ends (λ ts. A × Q ts) f
guarded-ends q = record { at = λ ts rest h. q.at ts rest h.1 }

-- what does not begin with `int`
pub record Plain (P : List Token → Type 0) : Type 0 where
  pub at : (ts rest : List Token) → P ts → without_int (ts ++ rest) ≡ ts ++ rest

plain : (t : Token) (kind : TokenKind) (rest : List Token) → t.kind ≡ kind → is_int kind ≡ false → without_int (t ∷ rest) ≡ t ∷ rest
plain t kind rest e not = ap (λ b. cond b rest (t ∷ rest)) (ap is_int e ∙ not)

pub sign-plain : (p : Punctuator) → Plain (Sign p)
sign-plain p = record {
  at = λ ts rest h. ap (λ l. without_int (l ++ rest)) h.2 ∙ plain h.0 (V.Punctuator p) rest h.1 refl ∙ ap (λ l. l ++ rest) (sym h.2);
}

pub name-plain : (x : Identifier) → Plain (IsName x)
name-plain x = record {
  at = λ ts rest h. ap (λ l. without_int (l ++ rest)) h.3 ∙ plain h.0 (V.Name x.name) rest h.1 refl ∙ ap (λ l. l ++ rest) (sym h.3);
}

pub first-plain : {P Q : List Token → Type 0} → Plain P → Plain (P ⨾ Q)
first-plain p = record {
  at = λ ts rest h.
      ap (λ l. without_int (l ++ rest)) h.4 ∙ ap without_int (append_assoc h.0 h.1 rest) ∙ p.at h.0 (h.1 ++ rest) h.2
      ∙ sym (append_assoc h.0 h.1 rest) ∙ ap (λ l. l ++ rest) (sym h.4);
}

-- `unsigned`, and what stands behind it
bare : {Q : List Token → Type 0} {g : List Token → List Token} → Ends Q g → Plain Q → (xs ys rest : List Token) → Word K.Unsigned xs → Q ys →
    g (behind_type Unsigned ((xs ++ ys) ++ rest)) ≡ rest
bare {g = g} q p xs ys rest w h =
    ap (λ l. g (behind_type Unsigned ((l ++ ys) ++ rest))) w.2 ∙ ap g (p.at ys rest h) ∙ q.at ys rest h

-- `unsigned int`
whole : {Q : List Token → Type 0} {g : List Token → List Token} → Ends Q g → (xs ys rest : List Token) → (Word K.Unsigned ⨾ Word K.Int) xs → Q ys →
    g (behind_type Unsigned ((xs ++ ys) ++ rest)) ≡ rest
whole {g = g} q xs ys rest w h =
    let u = w.2.0 in
    let v = w.3.0 in
    let both : xs ≡ u ∷ v ∷ [] = w.4 ∙ ap (λ l. l ++ w.1) w.2.2 ∙ ap (λ l. u ∷ l) w.3.2 in
    ap (λ l. g (behind_type Unsigned ((l ++ ys) ++ rest))) both
    ∙ ap (λ b. g (cond b (ys ++ rest) (v ∷ (ys ++ rest)))) (ap is_int w.3.1)
    ∙ q.at ys rest h

pub typed-ends : {Q : List Token → Type 0} {g : List Token → List Token} → (k : IntegerType) → Ends Q g → Plain Q → Ends (IsType k ⨾ Q) (λ ts. g (behind_type k ts))
typed-ends Int q p = then-ends (word-ends K.Int) q
typed-ends {Q = Q} {g = g} Unsigned q p = record {
  at = λ ts rest h. ap (λ l. g (behind_type Unsigned (l ++ rest))) h.4 ∙ by h.0 h.1 rest h.2 h.3;
}
  where
    by : (xs ys rest : List Token) → IsType Unsigned xs → Q ys → g (behind_type Unsigned ((xs ++ ys) ++ rest)) ≡ rest
    by xs ys rest (inl w) h = bare q p xs ys rest w h
    by xs ys rest (inr w) h = whole q xs ys rest w h
