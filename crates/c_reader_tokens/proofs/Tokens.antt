-- Single tokens and types: what is read is spelled so, and what is spelled so is read.
use Rattle.std.proofs.Common.{◌≡◌, ℕ, Bool, true, false, cond, List, [], ◌∷◌, ◌++◌, Option, Some, None, Result, Ok, inl, inr, refl, ap, ◌∙◌, subst, rules}
use denote.Enum.Bare.{same_true}
use Rattle.c_syntax.proofs.Parts.{chosen}
use Rattle.c_syntax.specs.declared.constant.Constant.{Constant}
use Rattle.c_syntax.specs.declared.constant.IntegerType.{IntegerType}
use Rattle.c_syntax.specs.declared.constant.IntegerType.TheVariants.{Int, Unsigned}
use Rattle.c_syntax.specs.declared.keyword.Keyword.{Keyword}
use Rattle.c_syntax.specs.declared.keyword.Keyword.TheVariants as K
use Rattle.c_syntax.specs.contracts.keyword.Keyword as keyword_type
use Rattle.c_syntax.specs.contracts.keyword.KeywordPartialEq.TheImpl as keyword_eq
use Rattle.c_syntax.specs.contracts.keyword.KeywordEq.TheImpl.Laws as keyword_laws
use Rattle.c_syntax.specs.declared.punctuator.Punctuator.{Punctuator}
use Rattle.c_syntax.specs.contracts.punctuator.Punctuator as punctuator_type
use Rattle.c_syntax.specs.contracts.punctuator.PunctuatorPartialEq.TheImpl as punctuator_eq
use Rattle.c_syntax.specs.contracts.punctuator.PunctuatorEq.TheImpl.Laws as punctuator_laws
use Rattle.c_syntax.specs.declared.token.Token.{Token}
use Rattle.c_syntax.specs.declared.token.TokenKind.{TokenKind}
use Rattle.c_syntax.specs.declared.token.TokenKind.TheVariants as T
use Rattle.c_syntax.specs.declared.identifier.Identifier.{Identifier}
use Rattle.c_syntax.specs.Parts.{OneAt, Sign, Word, IsConstant, IsName, IsType}
use Rattle.c_reader_tokens.specs.declared.fault.Fault.{Fault}
use Rattle.c_reader_tokens.specs.Reading.{◌>>=◌, misfit, Takes}
use Rattle.c_reader_tokens.specs.Peeking.{is_sign, is_word, is_sign_next, is_word_next}
use Rattle.c_reader_tokens.specs.Tokens.{passed, sign, word, given, valued, place_where, name_at, constant_of, placed_word, placed_name, constant, unsigned_type, integer_type}
use Rattle.c_reader_tokens.proofs.Laws.{done, ok_is, bind_ok, takes_then, parts_behind}

punctuator_tells : (p q : Punctuator) → (punctuator_eq.ghosts).eq p q ≡ true → p ≡ q
punctuator_tells p q e = same_true punctuator_type.the_type (search rules) p q e

keyword_tells : (k l : Keyword) → (keyword_eq.ghosts).eq k l ≡ true → k ≡ l
keyword_tells k l e = same_true keyword_type.the_type (search rules) k l e

-- ---- what the tests say

pub is_sign-true : (p : Punctuator) (kind : TokenKind) → is_sign p kind ≡ true → kind ≡ T.Punctuator p
is_sign-true p (T.Name x) e = absurd cc
is_sign-true p (T.Constant c) e = absurd cc
is_sign-true p (T.Keyword k) e = absurd cc
is_sign-true p (T.Punctuator q) e = ap (λ r. T.Punctuator r) (punctuator_tells q p e)

pub is_sign-same : (p : Punctuator) (kind : TokenKind) → kind ≡ T.Punctuator p → is_sign p kind ≡ true
is_sign-same p kind e = ap (is_sign p) e ∙ (punctuator_laws.laws-law).refl p

pub is_word-true : (k : Keyword) (kind : TokenKind) → is_word k kind ≡ true → kind ≡ T.Keyword k
is_word-true k (T.Name x) e = absurd cc
is_word-true k (T.Constant c) e = absurd cc
is_word-true k (T.Keyword l) e = ap (λ r. T.Keyword r) (keyword_tells l k e)
is_word-true k (T.Punctuator q) e = absurd cc

pub is_word-same : (k : Keyword) (kind : TokenKind) → kind ≡ T.Keyword k → is_word k kind ≡ true
is_word-same k kind e = ap (is_word k) e ∙ (keyword_laws.laws-law).refl k

pub is_sign_next-again : (p : Punctuator) (xs rest : List Token) → Sign p xs → is_sign_next p (xs ++ rest) ≡ true
is_sign_next-again p xs rest s = rw s.2 (is_sign-same p s.0.kind s.1)

pub is_word_next-again : (k : Keyword) (xs rest : List Token) → Word k xs → is_word_next k (xs ++ rest) ≡ true
is_word_next-again k xs rest s = rw s.2 (is_word-same k s.0.kind s.1)

-- ---- one token that passes a test

passed_takes : (passes : TokenKind → Bool) (ts rest : List Token) → passed passes ts ≡ Ok rest → (t : Token) × (passes t.kind ≡ true) × (ts ≡ t ∷ rest)
passed_takes passes [] rest e = absurd cc
passed_takes passes (t ∷ ts) rest e =
    elim (chosen (passes t.kind) (Ok ts) (misfit (t ∷ ts)) (done rest) e) [
      | inl holds ↦ (t, holds.0, ap (λ l. t ∷ l) (ok_is ts rest holds.1))
      | inr fails ↦ absurd (let f = fails.1 in cc)
    ]

pub sign_takes : (p : Punctuator) (ts rest : List Token) → sign p ts ≡ Ok rest → Takes (Sign p) ts rest
unfolding sign
sign_takes p ts rest e =
    let s = passed_takes (is_sign p) ts rest e in
    record { front = s.0 ∷ []; spelled = (s.0, is_sign-true p s.0.kind s.1, refl); parts = s.2 }

pub sign_again : (p : Punctuator) (xs rest : List Token) → Sign p xs → sign p (xs ++ rest) ≡ Ok rest
unfolding sign
sign_again p xs rest s = rw (s.2, is_sign-same p s.0.kind s.1) refl

pub word_takes : (k : Keyword) (ts rest : List Token) → word k ts ≡ Ok rest → Takes (Word k) ts rest
unfolding word
word_takes k ts rest e =
    let s = passed_takes (is_word k) ts rest e in
    record { front = s.0 ∷ []; spelled = (s.0, is_word-true k s.0.kind s.1, refl); parts = s.2 }

pub word_again : (k : Keyword) (xs rest : List Token) → Word k xs → word k (xs ++ rest) ≡ Ok rest
unfolding word
word_again k xs rest s = rw (s.2, is_word-same k s.0.kind s.1) refl

-- ---- one token that stands for a value

given_is : {A : Type 0} (value : Option A) (t : Token) (ts : List Token) (x : A) (rest : List Token) → given value t ts ≡ Ok (x, rest) → (value ≡ Some x) × (ts ≡ rest)
given_is None t ts x rest e = absurd cc
given_is (Some y) t ts x rest e =
    let one = ok_is (y, ts) (x, rest) e in
    (ap (λ (p : _ × List Token). Some p.0) one, ap (λ (p : _ × List Token). p.1) one)

pub valued_takes : {A : Type 0} (value_of : Token → Option A) (ts : List Token) (x : A) (rest : List Token) → valued value_of ts ≡ Ok (x, rest) → (t : Token) × (value_of t ≡ Some x) × (ts ≡ t ∷ rest)
valued_takes value_of [] x rest e = absurd cc
valued_takes value_of (t ∷ ts) x rest e =
    let g = given_is (value_of t) t ts x rest e in
    (t, g.0, ap (λ l. t ∷ l) g.1)

place_is : (passes : TokenKind → Bool) (t : Token) (at : ℕ) → place_where passes t ≡ Some at → (passes t.kind ≡ true) × (t.start ≡ at)
place_is passes t at e =
    elim (chosen (passes t.kind) (Some t.start) None (Some at) e) [
      | inl holds ↦ (holds.0, let same = holds.1 in cc)
      | inr fails ↦ absurd (let f = fails.1 in cc)
    ]

pub placed_word_takes : (k : Keyword) (ts : List Token) (at : ℕ) (rest : List Token) → placed_word k ts ≡ Ok (at, rest) → Takes (OneAt (T.Keyword k) at) ts rest
unfolding placed_word
placed_word_takes k ts at rest e =
    let s = valued_takes (place_where (is_word k)) ts at rest e in
    let p = place_is (is_word k) s.0 at s.1 in
    record { front = s.0 ∷ []; spelled = (s.0, is_word-true k s.0.kind p.0, p.1, refl); parts = s.2 }

pub placed_word_again : (k : Keyword) (at : ℕ) (xs rest : List Token) → OneAt (T.Keyword k) at xs → placed_word k (xs ++ rest) ≡ Ok (at, rest)
unfolding placed_word
placed_word_again k at xs rest s = rw (s.3, is_word-same k s.0.kind s.1, s.2) refl

name_is : (at : ℕ) (kind : TokenKind) (x : Identifier) → name_at at kind ≡ Some x → (kind ≡ T.Name x.name) × (at ≡ x.offset)
name_is at (T.Name y) x e = let same : record { name = y; offset = at } ≡ x = cc in (ap (λ (z : Identifier). T.Name z.name) same, ap (λ (z : Identifier). z.offset) same)
name_is at (T.Constant c) x e = absurd cc
name_is at (T.Keyword k) x e = absurd cc
name_is at (T.Punctuator p) x e = absurd cc

pub placed_name_takes : (ts : List Token) (x : Identifier) (rest : List Token) → placed_name ts ≡ Ok (x, rest) → Takes (IsName x) ts rest
unfolding placed_name
placed_name_takes ts x rest e =
    let s = valued_takes (λ t. name_at t.start t.kind) ts x rest e in
    let n = name_is s.0.start s.0.kind x s.1 in
    record { front = s.0 ∷ []; spelled = (s.0, n.0, n.1, refl); parts = s.2 }

pub placed_name_again : (x : Identifier) (xs rest : List Token) → IsName x xs → placed_name (xs ++ rest) ≡ Ok (x, rest)
unfolding placed_name
placed_name_again x xs rest s = rw (s.3, s.1, s.2) refl

constant_is : (kind : TokenKind) (c : Constant) → constant_of kind ≡ Some c → kind ≡ T.Constant c
constant_is (T.Name y) c e = absurd cc
constant_is (T.Constant d) c e = cc
constant_is (T.Keyword k) c e = absurd cc
constant_is (T.Punctuator p) c e = absurd cc

pub constant_takes : (ts : List Token) (c : Constant) (rest : List Token) → constant ts ≡ Ok (c, rest) → Takes (IsConstant c) ts rest
unfolding constant
constant_takes ts c rest e =
    let s = valued_takes (λ t. constant_of t.kind) ts c rest e in
    record { front = s.0 ∷ []; spelled = (s.0, constant_is s.0.kind c s.1, refl); parts = s.2 }

pub constant_again : (c : Constant) (xs rest : List Token) → IsConstant c xs → constant (xs ++ rest) ≡ Ok (c, rest)
unfolding constant
constant_again c xs rest s = rw (s.2, s.1) refl

-- ---- types

abbrev typed : IntegerType → List Token → Result (IntegerType × List Token) Fault
typed t rest = Ok (t, rest)

-- a word alone, and the type that it stands for
typed_is : (k : Keyword) (t : IntegerType) (ts : List Token) (u : IntegerType) (rest : List Token) → (word k ts >>= typed t) ≡ Ok (u, rest) → (word k ts ≡ Ok rest) × (t ≡ u)
typed_is k t ts u rest e =
    let p = bind_ok (word k ts) (typed t) (u, rest) e in
    let one = ok_is (t, p.0) (u, rest) p.2 in
    (p.1 ∙ ap (λ (q : IntegerType × List Token). done q.1) one, ap (λ (q : IntegerType × List Token). q.0) one)

unsigned_type_takes : (ts : List Token) (t : IntegerType) (rest : List Token) → unsigned_type ts ≡ Ok (t, rest) → Takes (IsType t) ts rest
unsigned_type_takes ts t rest e =
    let p = bind_ok (word K.Unsigned ts) (λ behind. cond (is_word_next K.Int behind) (word K.Int behind >>= typed Unsigned) (Ok (Unsigned, behind))) (t, rest) e in
    let behind = p.0 in
    let first = word_takes K.Unsigned ts behind p.1 in
    elim (chosen (is_word_next K.Int behind) (word K.Int behind >>= typed Unsigned) (Ok (Unsigned, behind)) (done (t, rest)) p.2) [
      | inl holds ↦
          let q = typed_is K.Int Unsigned behind t rest holds.1 in
          let both = takes_then first (word_takes K.Int behind rest q.0) in
          subst (λ u. Takes (IsType u) ts rest) q.1 (record { front = both.front; spelled = inr both.spelled; parts = both.parts })
      | inr fails ↦
          subst (λ (q : IntegerType × List Token). Takes (IsType q.0) ts q.1) (ok_is (Unsigned, behind) (t, rest) fails.1)
          (record { front = first.front; spelled = inl first.spelled; parts = first.parts })
    ]

pub integer_type_takes : (ts : List Token) (t : IntegerType) (rest : List Token) → integer_type ts ≡ Ok (t, rest) → Takes (IsType t) ts rest
unfolding integer_type
integer_type_takes ts t rest e =
    elim (chosen (is_word_next K.Int ts) (word K.Int ts >>= typed Int) (unsigned_type ts) (done (t, rest)) e) [
      | inl holds ↦
          let q = typed_is K.Int Int ts t rest holds.1 in
          let one = word_takes K.Int ts rest q.0 in
          subst (λ u. Takes (IsType u) ts rest) q.1 (record { front = one.front; spelled = one.spelled; parts = one.parts })
      | inr fails ↦ unsigned_type_takes ts t rest fails.1
    ]

no_int : (kind : TokenKind) → kind ≡ T.Keyword K.Unsigned → is_word K.Int kind ≡ false
no_int kind e = ap (is_word K.Int) e

unsigned_again : (xs rest : List Token) → IsType Unsigned xs → is_word_next K.Int rest ≡ false → integer_type (xs ++ rest) ≡ Ok (Unsigned, rest)
unfolding integer_type
unsigned_again xs rest (inl s) free =
    let first = word_again K.Unsigned xs rest s in
    let other : is_word_next K.Int (xs ++ rest) ≡ false = rw s.2 (no_int s.0.kind s.1) in
    rw (other, first, free) refl
unsigned_again xs rest (inr s) free =
    let split = parts_behind xs s.0 s.1 rest s.4 in
    let other : is_word_next K.Int (s.0 ++ (s.1 ++ rest)) ≡ false = rw s.2.2 (no_int s.2.0.kind s.2.1) in
    rw (split, other, word_again K.Unsigned s.0 (s.1 ++ rest) s.2, is_word_next-again K.Int s.1 rest s.3, word_again K.Int s.1 rest s.3) refl

-- An `int` behind `unsigned` belongs to it.
pub integer_type_again : (t : IntegerType) (xs rest : List Token) → IsType t xs → is_word_next K.Int rest ≡ false → integer_type (xs ++ rest) ≡ Ok (t, rest)
unfolding integer_type
integer_type_again Int xs rest s free = rw (is_word_next-again K.Int xs rest s, word_again K.Int xs rest s) refl
integer_type_again Unsigned xs rest s free = unsigned_again xs rest s free
