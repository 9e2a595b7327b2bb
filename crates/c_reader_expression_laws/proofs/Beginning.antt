-- With which tokens expressions begin.
use Rattle.std.proofs.Common.{◌≡◌, ℕ, Bool, true, false, List, [], ◌∷◌, ◌++◌, refl, sym, ap, subst, ◌∙◌}
use Rattle.std.specs.Prelude.{◌&&◌}
use Rattle.c_syntax.specs.declared.punctuator.Punctuator.{Punctuator}
use Rattle.c_syntax.specs.declared.punctuator.Punctuator.TheVariants as P
use Rattle.c_syntax.specs.declared.token.Token.{Token}
use Rattle.c_syntax.specs.declared.token.TokenKind.{TokenKind}
use Rattle.c_syntax.specs.declared.token.TokenKind.TheVariants as Kind
use Rattle.c_syntax.specs.declared.expression.UnaryOperator.{UnaryOperator}
use Rattle.c_syntax.specs.declared.expression.UnaryOperator.TheVariants as U
use Rattle.c_syntax.specs.declared.expression.BinaryOperator.{BinaryOperator}
use Rattle.c_syntax.specs.declared.expression.BinaryOperator.TheVariants as B
use Rattle.c_syntax.specs.Trees.{ExpressionTree}
use Rattle.c_syntax.specs.Trees as T
use Rattle.c_syntax.specs.Signs.{unary_sign, binary_sign, binding}
use Rattle.c_syntax.specs.Parts.{Sign}
use Rattle.c_syntax.specs.Expressions.{IsExpressionAt}
use Rattle.c_reader_tokens.specs.Peeking.{is_sign, is_name, is_next, is_sign_next, is_call_next}
use Rattle.c_reader_tokens.proofs.Laws.{parts_behind}
use Rattle.c_reader_tokens.proofs.Tokens.{is_sign-true}
use Rattle.c_reader_expression_laws.specs.Operators.{begins_operand}

abbrev pub Begins : List Token → Type 0
Begins xs = is_next begins_operand xs ≡ true

pub next_more : (passes : TokenKind → Bool) (xs rest : List Token) → is_next passes xs ≡ true → is_next passes (xs ++ rest) ≡ true
next_more passes [] rest e = absurd cc
next_more passes (t ∷ ts) rest e = e

begins_unary : (o : UnaryOperator) → begins_operand (Kind.Punctuator (unary_sign o)) ≡ true
begins_unary U.Minus = refl
begins_unary U.Plus = refl
begins_unary U.Complement = refl
begins_unary U.Not = refl

begins_with : (kind : TokenKind) (xs : List Token) → begins_operand kind ≡ true → (t : Token) (ts : List Token) → t.kind ≡ kind → xs ≡ t ∷ ts → Begins xs
begins_with kind xs e t ts k p = rw (p, k) e

pub expression_begins : (level : ℕ) (t : ExpressionTree) (xs : List Token) → IsExpressionAt level t xs → Begins xs
expression_begins level (T.Number c) xs s = begins_with (Kind.Constant c) xs refl s.0 [] s.1 s.2
expression_begins level (T.Variable x) xs s = begins_with (Kind.Name x.name) xs refl s.0 [] s.1 s.3
expression_begins level (T.Element a e) xs s =
    let n = s.2 in begins_with (Kind.Name a.name) xs refl n.0 s.1 n.1 (s.4 ∙ ap (λ l. l ++ s.1) n.3)
expression_begins level (T.Parenthesis e) xs s =
    let n = s.2 in begins_with (Kind.Punctuator P.LeftParenthesis) xs refl n.0 s.1 n.1 (s.4 ∙ ap (λ l. l ++ s.1) n.2)
expression_begins level (T.Cast t e) xs s =
    let n = s.2 in begins_with (Kind.Punctuator P.LeftParenthesis) xs refl n.0 s.1 n.1 (s.4 ∙ ap (λ l. l ++ s.1) n.2)
expression_begins level (T.Unary o e) xs s =
    let n = s.2 in begins_with (Kind.Punctuator (unary_sign o)) xs (begins_unary o) n.0 s.1 n.1 (s.4 ∙ ap (λ l. l ++ s.1) n.2)
expression_begins level (T.Binary o a b) xs s =
    let d = s.1 in subst Begins (sym d.4) (next_more begins_operand d.0 d.1 (expression_begins (binding o) a d.0 d.2))
expression_begins level (T.Conditional c a b) xs s =
    let d = s.1 in subst Begins (sym d.4) (next_more begins_operand d.0 d.1 (expression_begins 1 c d.0 d.2))

no_sign : (passes : TokenKind → Bool) (p : Punctuator) → passes (Kind.Punctuator p) ≡ false → (kind : TokenKind) (b : Bool) → is_sign p kind ≡ b → passes kind ≡ true → b ≡ false
no_sign passes p never kind false e holds = refl
no_sign passes p never kind true e holds = absurd (let same = ap passes (is_sign-true p kind e) in cc)

-- a token that passes a test is none of the signs that do not
pub apart_from : (passes : TokenKind → Bool) (p : Punctuator) → passes (Kind.Punctuator p) ≡ false → (xs rest : List Token) → is_next passes xs ≡ true → is_sign_next p (xs ++ rest) ≡ false
apart_from passes p never [] rest e = absurd cc
apart_from passes p never (t ∷ ts) rest e = no_sign passes p never t.kind (is_sign p t.kind) refl e

-- what begins an expression is none of the other signs
pub not_sign : (p : Punctuator) → begins_operand (Kind.Punctuator p) ≡ false → (xs rest : List Token) → Begins xs → is_sign_next p (xs ++ rest) ≡ false
not_sign p never xs rest e = apart_from begins_operand p never xs rest e

-- ---- an expression is no call

no_parenthesis : (o : BinaryOperator) → is_sign P.LeftParenthesis (Kind.Punctuator (binary_sign o)) ≡ false
no_parenthesis B.LogicalOr = refl
no_parenthesis B.LogicalAnd = refl
no_parenthesis B.Or = refl
no_parenthesis B.Xor = refl
no_parenthesis B.And = refl
no_parenthesis B.Equal = refl
no_parenthesis B.NotEqual = refl
no_parenthesis B.Less = refl
no_parenthesis B.Greater = refl
no_parenthesis B.LessEqual = refl
no_parenthesis B.GreaterEqual = refl
no_parenthesis B.ShiftLeft = refl
no_parenthesis B.ShiftRight = refl
no_parenthesis B.Add = refl
no_parenthesis B.Subtract = refl
no_parenthesis B.Multiply = refl
no_parenthesis B.Divide = refl
no_parenthesis B.Remainder = refl

sign_no_parenthesis : (p : Punctuator) → is_sign P.LeftParenthesis (Kind.Punctuator p) ≡ false → (xs rest : List Token) → Sign p xs → is_sign_next P.LeftParenthesis (xs ++ rest) ≡ false
sign_no_parenthesis p never xs rest s = rw (s.2, s.1) never

unnamed : (kind : TokenKind) (xs rest : List Token) → is_name kind ≡ false → (t : Token) (ts : List Token) → t.kind ≡ kind → xs ≡ t ∷ ts → is_call_next (xs ++ rest) ≡ false
unnamed kind xs rest e t ts k p = rw (p, k, e) refl

named_alone : (xs rest : List Token) (t : Token) (ts : List Token) → xs ≡ t ∷ ts → is_sign_next P.LeftParenthesis (ts ++ rest) ≡ false → is_call_next (xs ++ rest) ≡ false
named_alone xs rest t ts p e = rw (p, e) (never (is_name t.kind)) where
  never : (b : Bool) → (b && false) ≡ false
  never true = refl
  never false = refl

pub expression_no_call : (level : ℕ) (t : ExpressionTree) (xs rest : List Token) → IsExpressionAt level t xs → is_sign_next P.LeftParenthesis rest ≡ false → is_call_next (xs ++ rest) ≡ false
expression_no_call level (T.Number c) xs rest s free = unnamed (Kind.Constant c) xs rest refl s.0 [] s.1 s.2
expression_no_call level (T.Variable x) xs rest s free = named_alone xs rest s.0 [] s.3 free
expression_no_call level (T.Element a e) xs rest s free =
    let n = s.2 in
    let d = s.3 in
    let behind : is_sign_next P.LeftParenthesis (s.1 ++ rest) ≡ false =
    subst (λ l. is_sign_next P.LeftParenthesis l ≡ false) (sym (parts_behind s.1 d.0 d.1 rest d.4)) (sign_no_parenthesis P.LeftBracket refl d.0 (d.1 ++ rest) d.2) in
    named_alone xs rest n.0 s.1 (s.4 ∙ ap (λ l. l ++ s.1) n.3) behind
expression_no_call level (T.Parenthesis e) xs rest s free =
    let n = s.2 in unnamed (Kind.Punctuator P.LeftParenthesis) xs rest refl n.0 s.1 n.1 (s.4 ∙ ap (λ l. l ++ s.1) n.2)
expression_no_call level (T.Cast t e) xs rest s free =
    let n = s.2 in unnamed (Kind.Punctuator P.LeftParenthesis) xs rest refl n.0 s.1 n.1 (s.4 ∙ ap (λ l. l ++ s.1) n.2)
expression_no_call level (T.Unary o e) xs rest s free =
    let n = s.2 in unnamed (Kind.Punctuator (unary_sign o)) xs rest refl n.0 s.1 n.1 (s.4 ∙ ap (λ l. l ++ s.1) n.2)
expression_no_call level (T.Binary o a b) xs rest s free =
    let d = s.1 in
    let q = d.3 in
    let behind : is_sign_next P.LeftParenthesis (d.1 ++ rest) ≡ false =
    subst (λ l. is_sign_next P.LeftParenthesis l ≡ false) (sym (parts_behind d.1 q.0 q.1 rest q.4)) (sign_no_parenthesis (binary_sign o) (no_parenthesis o) q.0 (q.1 ++ rest) q.2) in
    subst (λ l. is_call_next l ≡ false) (sym (parts_behind xs d.0 d.1 rest d.4)) (expression_no_call (binding o) a d.0 (d.1 ++ rest) d.2 behind)
expression_no_call level (T.Conditional c a b) xs rest s free =
    let d = s.1 in
    let q = d.3 in
    let behind : is_sign_next P.LeftParenthesis (d.1 ++ rest) ≡ false =
    subst (λ l. is_sign_next P.LeftParenthesis l ≡ false) (sym (parts_behind d.1 q.0 q.1 rest q.4)) (sign_no_parenthesis P.Question refl q.0 (q.1 ++ rest) q.2) in
    subst (λ l. is_call_next l ≡ false) (sym (parts_behind xs d.0 d.1 rest d.4)) (expression_no_call 1 c d.0 (d.1 ++ rest) d.2 behind)
