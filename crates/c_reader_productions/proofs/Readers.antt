-- What single tokens, types and expressions are read from, how they begin, and what may follow them.
use Rattle.std.proofs.Common.{◌≡◌, ℕ, ◌≤◌, true, false, List, [], ◌∷◌, ◌++◌, inl, inr, refl, sym, ap, subst, ◌∙◌, append_assoc}
use Rattle.c_syntax.specs.declared.constant.Constant.{Constant}
use Rattle.c_syntax.specs.declared.constant.IntegerType.{IntegerType}
use Rattle.c_syntax.specs.declared.constant.IntegerType.TheVariants.{Int, Unsigned}
use Rattle.c_syntax.specs.declared.keyword.Keyword.{Keyword}
use Rattle.c_syntax.specs.declared.keyword.Keyword.TheVariants as K
use Rattle.c_syntax.specs.declared.punctuator.Punctuator.{Punctuator}
use Rattle.c_syntax.specs.declared.punctuator.Punctuator.TheVariants as P
use Rattle.c_syntax.specs.declared.token.Token.{Token}
use Rattle.c_syntax.specs.declared.token.TokenKind.{TokenKind}
use Rattle.c_syntax.specs.declared.token.TokenKind.TheVariants as T
use Rattle.c_syntax.specs.declared.identifier.Identifier.{Identifier}
use Rattle.c_syntax.specs.declared.expression.UnaryOperator.{UnaryOperator}
use Rattle.c_syntax.specs.declared.expression.UnaryOperator.TheVariants as U
use Rattle.c_syntax.specs.Trees.{ExpressionTree}
use Rattle.c_syntax.specs.Trees as E
use Rattle.c_syntax.specs.Signs.{unary_sign, binding}
use Rattle.c_syntax.specs.Heights.{expression_height}
use Rattle.c_syntax.specs.Expressions.{IsExpressionAt, IsExpression}
use Rattle.c_syntax.specs.Parts.{One, Sign, Word, IsConstant, IsName, IsType, ◌⨾◌}
use Rattle.c_reader_tokens.specs.Reading.{Takes}
use Rattle.c_reader_tokens.specs.Peeking.{is_sign, is_sign_next, is_word_next, is_name_next}
use Rattle.c_reader_tokens.specs.Tokens.{sign, word, placed_name, constant, integer_type}
use Rattle.c_reader_tokens.proofs.Tokens.{sign_takes, sign_again, word_takes, word_again, placed_name_takes, placed_name_again, constant_takes, constant_again, integer_type_takes, integer_type_again}
use Rattle.c_reader_expression_laws.specs.Operators.{Ends}
use Rattle.c_reader_expression_laws.specs.Reading.{expression_at}
use Rattle.c_reader_expression_laws.proofs.Laws.{expression_takes, expression_again}
use Rattle.c_reader_productions.proofs.Combining.{IsReader}
use Rattle.c_reader_productions.proofs.Laws.{IsMark, IsTaken, Any, Whatever}

pub sign_mark : (p : Punctuator) → IsMark (sign p) (Sign p)
sign_mark p = record { takes = sign_takes p; again = sign_again p }

pub word_mark : (k : Keyword) → IsMark (word k) (Word k)
word_mark k = record { takes = word_takes k; again = word_again k }

taken : {A : Type 0} {P : A → List Token → Type 0} (ts : List Token) (x : A) (rest : List Token) → Takes (P x) ts rest → IsTaken Whatever P Any ts x rest
taken ts x rest t = record { fits = tt; leaves = tt; front = t.front; spelled = t.spelled; parts = t.parts }

pub constant_law : IsReader constant Whatever IsConstant Any Any
constant_law = record { takes = λ ts c rest e. taken ts c rest (constant_takes ts c rest e); again = λ c xs rest fits s end. constant_again c xs rest s }

pub name_law : IsReader placed_name Whatever IsName Any Any
name_law = record { takes = λ ts x rest e. taken ts x rest (placed_name_takes ts x rest e); again = λ x xs rest fits s end. placed_name_again x xs rest s }

pub type_law : IsReader integer_type Whatever IsType Any (λ t rest. is_word_next K.Int rest ≡ false)
type_law = record { takes = λ ts t rest e. taken ts t rest (integer_type_takes ts t rest e); again = λ t xs rest fits s end. integer_type_again t xs rest s end }

pub expression_law : (fuel : ℕ) → IsReader (expression_at fuel 0) (λ t. expression_height t ≤ fuel) IsExpression Any (λ t rest. Ends 0 rest)
expression_law fuel = record {
  takes = λ ts t rest e.
      let r = expression_takes fuel 0 ts t rest e in
      let k = r.takes in
      record { fits = r.low; leaves = tt; front = k.front; spelled = k.spelled; parts = k.parts };
  again = λ t xs rest fits s end. expression_again fuel 0 t xs rest s fits end;
}

-- ---- how something begins

-- what holds where the first part is next holds where both are
pub begun : {P Q : List Token → Type 0} (C : List Token → Type 0) → ((us rest : List Token) → P us → C (us ++ rest)) → (xs rest : List Token) → (P ⨾ Q) xs → C (xs ++ rest)
begun C f xs rest s = subst C (sym (ap (λ (l : List Token). l ++ rest) s.4 ∙ append_assoc s.0 s.1 rest)) (f s.0 (s.1 ++ rest) s.2)

pub left_filled : {P Q : List Token → Type 0} → (P [] → ⊥) → (P ⨾ Q) [] → ⊥
left_filled f ([], ys, p, q, e) = f p
left_filled f (x ∷ xs, ys, p, q, e) = cc

one_filled : (kind : TokenKind) → One kind [] → ⊥
one_filled kind s = let e = s.2 in cc

pub name_filled : (x : Identifier) → IsName x [] → ⊥
name_filled x s = let e = s.3 in cc

pub type_filled : (t : IntegerType) → IsType t [] → ⊥
type_filled Int s = one_filled (T.Keyword K.Int) s
type_filled Unsigned (inl s) = one_filled (T.Keyword K.Unsigned) s
type_filled Unsigned (inr s) = left_filled (one_filled (T.Keyword K.Unsigned)) s

pub sign_filled : (p : Punctuator) → Sign p [] → ⊥
sign_filled p s = one_filled (T.Punctuator p) s

pub word_filled : (k : Keyword) → Word k [] → ⊥
word_filled k s = one_filled (T.Keyword k) s

pub expression_filled : (t : ExpressionTree) (level : ℕ) → IsExpressionAt level t [] → ⊥
expression_filled (E.Number c) level s = one_filled (T.Constant c) s
expression_filled (E.Variable x) level s = name_filled x s
expression_filled (E.Element a e) level s = left_filled (name_filled a) s
expression_filled (E.Parenthesis e) level s = left_filled (sign_filled P.LeftParenthesis) s
expression_filled (E.Cast t e) level s = left_filled (sign_filled P.LeftParenthesis) s
expression_filled (E.Unary o e) level s = left_filled (sign_filled (unary_sign o)) s
expression_filled (E.Binary o a b) level s = left_filled (expression_filled a (binding o)) s.1
expression_filled (E.Conditional c a b) level s = left_filled (expression_filled c 1) s.1

pub other_sign : (p q : Punctuator) → is_sign q (T.Punctuator p) ≡ false → (xs rest : List Token) → Sign p xs → is_sign_next q (xs ++ rest) ≡ false
other_sign p q other xs rest s = rw (s.2, s.1) other

pub sign_no_word : (p : Punctuator) (k : Keyword) (xs rest : List Token) → Sign p xs → is_word_next k (xs ++ rest) ≡ false
sign_no_word p k xs rest s = rw (s.2, s.1) refl

pub sign_no_name : (p : Punctuator) (xs rest : List Token) → Sign p xs → is_name_next (xs ++ rest) ≡ false
sign_no_name p xs rest s = rw (s.2, s.1) refl

pub name_no_word : (x : Identifier) (k : Keyword) (xs rest : List Token) → IsName x xs → is_word_next k (xs ++ rest) ≡ false
name_no_word x k xs rest s = rw (s.3, s.1) refl

name_no_sign : (x : Identifier) (p : Punctuator) (xs rest : List Token) → IsName x xs → is_sign_next p (xs ++ rest) ≡ false
name_no_sign x p xs rest s = rw (s.3, s.1) refl

constant_no_sign : (c : Constant) (p : Punctuator) (xs rest : List Token) → IsConstant c xs → is_sign_next p (xs ++ rest) ≡ false
constant_no_sign c p xs rest s = rw (s.2, s.1) refl

pub name_next : (x : Identifier) (xs rest : List Token) → IsName x xs → is_name_next (xs ++ rest) ≡ true
name_next x xs rest s = rw (s.3, s.1) refl

unary_no_brace : (o : UnaryOperator) → is_sign P.LeftBrace (T.Punctuator (unary_sign o)) ≡ false
unary_no_brace U.Minus = refl
unary_no_brace U.Plus = refl
unary_no_brace U.Complement = refl
unary_no_brace U.Not = refl

abbrev NoBrace : List Token → Type 0
NoBrace ts = is_sign_next P.LeftBrace ts ≡ false

pub expression_no_brace : (t : ExpressionTree) (level : ℕ) (xs rest : List Token) → IsExpressionAt level t xs → is_sign_next P.LeftBrace (xs ++ rest) ≡ false
expression_no_brace (E.Number c) level xs rest s = constant_no_sign c P.LeftBrace xs rest s
expression_no_brace (E.Variable x) level xs rest s = name_no_sign x P.LeftBrace xs rest s
expression_no_brace (E.Element a e) level xs rest s = begun NoBrace (name_no_sign a P.LeftBrace) xs rest s
expression_no_brace (E.Parenthesis e) level xs rest s = begun NoBrace (other_sign P.LeftParenthesis P.LeftBrace refl) xs rest s
expression_no_brace (E.Cast t e) level xs rest s = begun NoBrace (other_sign P.LeftParenthesis P.LeftBrace refl) xs rest s
expression_no_brace (E.Unary o e) level xs rest s = begun NoBrace (other_sign (unary_sign o) P.LeftBrace (unary_no_brace o)) xs rest s
expression_no_brace (E.Binary o a b) level xs rest s = begun NoBrace (expression_no_brace a (binding o)) xs rest s.1
expression_no_brace (E.Conditional c a b) level xs rest s = begun NoBrace (expression_no_brace c 1) xs rest s.1

int_no_void : (xs rest : List Token) → Word K.Int xs → is_word_next K.Void (xs ++ rest) ≡ false
int_no_void xs rest s = rw (s.2, s.1) refl

unsigned_no_void : (xs rest : List Token) → Word K.Unsigned xs → is_word_next K.Void (xs ++ rest) ≡ false
unsigned_no_void xs rest s = rw (s.2, s.1) refl

abbrev NoVoid : List Token → Type 0
NoVoid ts = is_word_next K.Void ts ≡ false

pub type_no_void : (t : IntegerType) (xs rest : List Token) → IsType t xs → is_word_next K.Void (xs ++ rest) ≡ false
type_no_void Int xs rest s = int_no_void xs rest s
type_no_void Unsigned xs rest (inl s) = unsigned_no_void xs rest s
type_no_void Unsigned xs rest (inr s) = begun NoVoid unsigned_no_void xs rest s
