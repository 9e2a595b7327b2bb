-- What is spelled so, and is low, is read.
use Rattle.std.proofs.Common.{◌≡◌, ℕ, zero, suc, ◌+◌, ◌-◌, ◌≤◌, ◌<◌, true, false, List, ◌++◌, Ok, inl, inr, refl, sym, ap, subst, ◌∙◌, zero-add, arith}
use Rattle.std.proofs.lemmas.Bool.{le-leb}
use Rattle.c_syntax.specs.declared.constant.Constant.{Constant}
use Rattle.c_syntax.specs.declared.constant.IntegerType.{IntegerType}
use Rattle.c_syntax.specs.declared.constant.IntegerType.TheVariants.{Int, Unsigned}
use Rattle.c_syntax.specs.declared.keyword.Keyword.TheVariants as K
use Rattle.c_syntax.specs.declared.punctuator.Punctuator.TheVariants as P
use Rattle.c_syntax.specs.declared.token.Token.{Token}
use Rattle.c_syntax.specs.declared.token.TokenKind.{TokenKind}
use Rattle.c_syntax.specs.declared.token.TokenKind.TheVariants as T
use Rattle.c_syntax.specs.declared.identifier.Identifier.{Identifier}
use Rattle.c_syntax.specs.declared.expression.UnaryOperator.{UnaryOperator}
use Rattle.c_syntax.specs.declared.expression.BinaryOperator.{BinaryOperator}
use Rattle.c_syntax.specs.Trees.{ExpressionTree}
use Rattle.c_syntax.specs.Trees as E
use Rattle.c_syntax.specs.Signs.{unary_sign, binary_sign, binding, operand_level}
use Rattle.c_syntax.specs.Heights.{expression_height}
use Rattle.c_syntax.specs.Expressions.{IsExpressionAt}
use Rattle.c_syntax.specs.Parts.{One, Sign, IsName, IsConstant, IsType, ◌⨾◌}
use Rattle.c_reader_tokens.specs.Reading.{Reading, ◌>>=◌}
use Rattle.c_reader_tokens.specs.Peeking.{is_sign_next, is_word, is_word_next, is_type_next}
use Rattle.c_reader_tokens.proofs.Laws.{parts_behind}
use Rattle.c_reader_tokens.proofs.Tokens.{sign_again, is_sign_next-again, placed_name_again, constant_again, integer_type_again}
use Rattle.c_reader_expression_laws.specs.declared.next.Next.TheVariants.{Operator, Choice}
use Rattle.c_reader_expression_laws.specs.Operators.{next, Stops, Ends}
use Rattle.c_reader_expression_laws.specs.Operands.{Levels, number, indexed, variable, cast, enclosed, parenthesized, signed, operand_at, operand}
use Rattle.c_reader_expression_laws.specs.Reading.{operated, chosen, chain}
use Rattle.c_reader_expression_laws.proofs.Continuing.{unary_of-sign, unary_is_no_parenthesis, is_operator, ends_behind, ends_above, ends_choice, next_choice, ends_operator, next_operator, stops_operand}

-- an operand is read by its first token
operand_one : (below : Levels) (kind : TokenKind) (xs rest : List Token) → One kind xs → operand below (xs ++ rest) ≡ operand_at below kind (xs ++ rest)
unfolding operand
operand_one below kind xs rest s = rw (s.2, s.1) refl

operand_name : (below : Levels) (x : Identifier) (xs rest : List Token) → IsName x xs → operand below (xs ++ rest) ≡ variable below (xs ++ rest)
unfolding operand
operand_name below x xs rest s = rw (s.3, s.1) refl

-- ---- where a type begins

is_type_next-again : (t : IntegerType) (xs rest : List Token) → IsType t xs → is_type_next (xs ++ rest) ≡ true
is_type_next-again Int xs rest s = rw (s.2, s.1) refl
is_type_next-again Unsigned xs rest (inl s) = rw (s.2, s.1) refl
is_type_next-again Unsigned xs rest (inr s) = rw (s.4, s.2.2, s.2.1) refl

one_no_type : (kind : TokenKind) (xs rest : List Token) → One kind xs → is_word K.Int kind ≡ false → is_word K.Unsigned kind ≡ false → is_type_next (xs ++ rest) ≡ false
one_no_type kind xs rest s int unsigned = rw (s.2, s.1, int, unsigned) refl

name_no_type : (x : Identifier) (xs rest : List Token) → IsName x xs → is_type_next (xs ++ rest) ≡ false
name_no_type x xs rest s = rw (s.3, s.1) refl

expression_no_type : (level : ℕ) (t : ExpressionTree) (xs rest : List Token) → IsExpressionAt level t xs → is_type_next (xs ++ rest) ≡ false
expression_no_type level (E.Number c) xs rest s = one_no_type (T.Constant c) xs rest s refl refl
expression_no_type level (E.Variable x) xs rest s = name_no_type x xs rest s
expression_no_type level (E.Element a e) xs rest s = rw (parts_behind xs s.0 s.1 rest s.4) (name_no_type a s.0 (s.1 ++ rest) s.2)
expression_no_type level (E.Parenthesis e) xs rest s = rw (parts_behind xs s.0 s.1 rest s.4) (one_no_type (T.Punctuator P.LeftParenthesis) s.0 (s.1 ++ rest) s.2 refl refl)
expression_no_type level (E.Cast t e) xs rest s = rw (parts_behind xs s.0 s.1 rest s.4) (one_no_type (T.Punctuator P.LeftParenthesis) s.0 (s.1 ++ rest) s.2 refl refl)
expression_no_type level (E.Unary o e) xs rest s = rw (parts_behind xs s.0 s.1 rest s.4) (one_no_type (T.Punctuator (unary_sign o)) s.0 (s.1 ++ rest) s.2 refl refl)
expression_no_type level (E.Binary o a b) xs rest s = let p = s.1 in rw (parts_behind xs p.0 p.1 rest p.4) (expression_no_type (binding o) a p.0 (p.1 ++ rest) p.2)
expression_no_type level (E.Conditional c a b) xs rest s = let p = s.1 in rw (parts_behind xs p.0 p.1 rest p.4) (expression_no_type 1 c p.0 (p.1 ++ rest) p.2)

-- ---- the operators on the left edge, each a part of the one behind it
abbrev spine : ExpressionTree → ℕ
spine (E.Number c) = 0
spine (E.Variable x) = 0
spine (E.Element a e) = 0
spine (E.Parenthesis e) = 0
spine (E.Cast t e) = 0
spine (E.Unary o e) = 0
spine (E.Binary o a b) = suc (spine a)
spine (E.Conditional c a b) = 0

spine-low : (t : ExpressionTree) → spine t < expression_height t
spine-low (E.Number c) = omega arith
spine-low (E.Variable x) = omega arith
spine-low (E.Element a e) = omega arith
spine-low (E.Parenthesis e) = omega arith
spine-low (E.Cast t e) = omega arith
spine-low (E.Unary o e) = omega arith
spine-low (E.Binary o a b) = let low = spine-low a in omega arith
spine-low (E.Conditional c a b) = omega arith

module _ (below : Levels) (fuel : ℕ) (below_again : (level : ℕ) (t : ExpressionTree) (xs rest : List Token) → IsExpressionAt level t xs → expression_height t ≤ fuel → Ends level rest → below level (xs ++ rest) ≡ Ok (t, rest)) where
  number_again : (c : Constant) (xs rest : List Token) → IsConstant c xs → number (xs ++ rest) ≡ Ok (E.Number c, rest)
  unfolding number
  number_again c xs rest s = rw (constant_again c xs rest s) refl

  variable_again : (x : Identifier) (xs rest : List Token) → IsName x xs → is_sign_next P.LeftBracket rest ≡ false → variable below (xs ++ rest) ≡ Ok (E.Variable x, rest)
  unfolding variable
  variable_again x xs rest s no_index = rw (placed_name_again x xs rest s, no_index) refl

  indexed_again : (a : Identifier) (e : ExpressionTree) (ts rest : List Token) → (Sign P.LeftBracket ⨾ IsExpressionAt 0 e ⨾ Sign P.RightBracket) ts → expression_height e ≤ fuel → indexed below a (ts ++ rest) ≡ Ok (E.Element a e, rest)
  unfolding indexed
  indexed_again a e ts rest s low =
      let p = s.3 in
      let first = sign_again P.LeftBracket s.0 (s.1 ++ rest) s.2 in
      let inner = below_again 0 e p.0 (p.1 ++ rest) p.2 low (ends_behind P.RightBracket refl refl refl 0 p.1 rest p.3) in
      let close = sign_again P.RightBracket p.1 rest p.3 in
      rw (parts_behind ts s.0 s.1 rest s.4, first, parts_behind s.1 p.0 p.1 rest p.4, inner, close) refl

  element_again : (a : Identifier) (e : ExpressionTree) (ts rest : List Token) → (IsName a ⨾ Sign P.LeftBracket ⨾ IsExpressionAt 0 e ⨾ Sign P.RightBracket) ts → expression_height e ≤ fuel → variable below (ts ++ rest) ≡ Ok (E.Element a e, rest)
  unfolding variable
  element_again a e ts rest s low =
      let p = s.3 in
      let name = placed_name_again a s.0 (s.1 ++ rest) s.2 in
      let bracket : is_sign_next P.LeftBracket (s.1 ++ rest) ≡ true = rw (parts_behind s.1 p.0 p.1 rest p.4) (is_sign_next-again P.LeftBracket p.0 (p.1 ++ rest) p.2) in
      rw (parts_behind ts s.0 s.1 rest s.4, name, bracket) (indexed_again a e s.1 rest s.3 low)

  enclosed_again : (e : ExpressionTree) (ts rest : List Token) → (IsExpressionAt 0 e ⨾ Sign P.RightParenthesis) ts → expression_height e ≤ fuel → enclosed below (ts ++ rest) ≡ Ok (E.Parenthesis e, rest)
  unfolding enclosed
  enclosed_again e ts rest s low =
      let inner = below_again 0 e s.0 (s.1 ++ rest) s.2 low (ends_behind P.RightParenthesis refl refl refl 0 s.1 rest s.3) in
      rw (parts_behind ts s.0 s.1 rest s.4, inner, sign_again P.RightParenthesis s.1 rest s.3) refl

  parenthesis_again : (e : ExpressionTree) (ts rest : List Token) → (Sign P.LeftParenthesis ⨾ IsExpressionAt 0 e ⨾ Sign P.RightParenthesis) ts → expression_height e ≤ fuel → parenthesized below (ts ++ rest) ≡ Ok (E.Parenthesis e, rest)
  unfolding parenthesized
  parenthesis_again e ts rest s low =
      let p = s.3 in
      let no_type : is_type_next (s.1 ++ rest) ≡ false = rw (parts_behind s.1 p.0 p.1 rest p.4) (expression_no_type 0 e p.0 (p.1 ++ rest) p.2) in
      rw (parts_behind ts s.0 s.1 rest s.4, sign_again P.LeftParenthesis s.0 (s.1 ++ rest) s.2, no_type) (enclosed_again e s.1 rest p low)

  cast_again : (t : IntegerType) (e : ExpressionTree) (ts rest : List Token) → (IsType t ⨾ Sign P.RightParenthesis ⨾ IsExpressionAt operand_level e) ts → expression_height e ≤ fuel → Ends operand_level rest → cast below (ts ++ rest) ≡ Ok (E.Cast t e, rest)
  unfolding cast
  cast_again t e ts rest s low ends =
      let p = s.3 in
      let split = parts_behind s.1 p.0 p.1 rest p.4 in
      let no_int : is_word_next K.Int (s.1 ++ rest) ≡ false = rw (split, p.2.2, p.2.1) refl in
      let kind = integer_type_again t s.0 (s.1 ++ rest) s.2 no_int in
      rw (parts_behind ts s.0 s.1 rest s.4, kind, split, sign_again P.RightParenthesis p.0 (p.1 ++ rest) p.2, below_again operand_level e p.1 rest p.3 low ends) refl

  casting_again : (t : IntegerType) (e : ExpressionTree) (ts rest : List Token) → (Sign P.LeftParenthesis ⨾ IsType t ⨾ Sign P.RightParenthesis ⨾ IsExpressionAt operand_level e) ts → expression_height e ≤ fuel → Ends operand_level rest → parenthesized below (ts ++ rest) ≡ Ok (E.Cast t e, rest)
  unfolding parenthesized
  casting_again t e ts rest s low ends =
      let p = s.3 in
      let typed : is_type_next (s.1 ++ rest) ≡ true = rw (parts_behind s.1 p.0 p.1 rest p.4) (is_type_next-again t p.0 (p.1 ++ rest) p.2) in
      rw (parts_behind ts s.0 s.1 rest s.4, sign_again P.LeftParenthesis s.0 (s.1 ++ rest) s.2, typed) (cast_again t e s.1 rest p low ends)

  signed_again : (o : UnaryOperator) (e : ExpressionTree) (ts rest : List Token) → (Sign (unary_sign o) ⨾ IsExpressionAt operand_level e) ts → expression_height e ≤ fuel → Ends operand_level rest → signed below o (ts ++ rest) ≡ Ok (E.Unary o e, rest)
  unfolding signed
  signed_again o e ts rest s low ends =
      rw (parts_behind ts s.0 s.1 rest s.4, sign_again (unary_sign o) s.0 (s.1 ++ rest) s.2, below_again operand_level e s.1 rest s.3 low ends) refl

  -- ---- an operand, by its first token

  operand_signed : (o : UnaryOperator) (xs rest : List Token) → Sign (unary_sign o) xs → operand below (xs ++ rest) ≡ signed below o (xs ++ rest)
  operand_signed o xs rest s =
      rw (operand_one below (T.Punctuator (unary_sign o)) xs rest s, unary_is_no_parenthesis o, unary_of-sign o) refl

  element_operand : (a : Identifier) (e : ExpressionTree) (ts rest : List Token) → (IsName a ⨾ Sign P.LeftBracket ⨾ IsExpressionAt 0 e ⨾ Sign P.RightBracket) ts → expression_height e ≤ fuel → operand below (ts ++ rest) ≡ Ok (E.Element a e, rest)
  element_operand a e ts rest s low =
      let split = parts_behind ts s.0 s.1 rest s.4 in
      ap (operand below) split ∙ operand_name below a s.0 (s.1 ++ rest) s.2 ∙ ap (variable below) (sym split) ∙ element_again a e ts rest s low

  parenthesis_operand : (e : ExpressionTree) (ts rest : List Token) → (Sign P.LeftParenthesis ⨾ IsExpressionAt 0 e ⨾ Sign P.RightParenthesis) ts → expression_height e ≤ fuel → operand below (ts ++ rest) ≡ Ok (E.Parenthesis e, rest)
  parenthesis_operand e ts rest s low =
      let split = parts_behind ts s.0 s.1 rest s.4 in
      ap (operand below) split ∙ operand_one below (T.Punctuator P.LeftParenthesis) s.0 (s.1 ++ rest) s.2 ∙ ap (parenthesized below) (sym split) ∙ parenthesis_again e ts rest s low

  cast_operand : (t : IntegerType) (e : ExpressionTree) (ts rest : List Token) → (Sign P.LeftParenthesis ⨾ IsType t ⨾ Sign P.RightParenthesis ⨾ IsExpressionAt operand_level e) ts → expression_height e ≤ fuel → Ends operand_level rest → operand below (ts ++ rest) ≡ Ok (E.Cast t e, rest)
  cast_operand t e ts rest s low ends =
      let split = parts_behind ts s.0 s.1 rest s.4 in
      ap (operand below) split ∙ operand_one below (T.Punctuator P.LeftParenthesis) s.0 (s.1 ++ rest) s.2 ∙ ap (parenthesized below) (sym split) ∙ casting_again t e ts rest s low ends

  unary_operand : (o : UnaryOperator) (e : ExpressionTree) (ts rest : List Token) → (Sign (unary_sign o) ⨾ IsExpressionAt operand_level e) ts → expression_height e ≤ fuel → Ends operand_level rest → operand below (ts ++ rest) ≡ Ok (E.Unary o e, rest)
  unary_operand o e ts rest s low ends =
      let split = parts_behind ts s.0 s.1 rest s.4 in
      ap (operand below) split ∙ operand_signed o s.0 (s.1 ++ rest) s.2 ∙ ap (signed below o) (sym split) ∙ signed_again o e ts rest s low ends

  -- ---- an operand and the operators behind it

  operated_again : (o : BinaryOperator) (a b : ExpressionTree) (ts rest : List Token) → (Sign (binary_sign o) ⨾ IsExpressionAt (suc (binding o)) b) ts → expression_height b ≤ fuel → Ends (suc (binding o)) rest → operated below o a (ts ++ rest) ≡ Ok (E.Binary o a b, rest)
  unfolding operated
  operated_again o a b ts rest s low ends =
      rw (parts_behind ts s.0 s.1 rest s.4, sign_again (binary_sign o) s.0 (s.1 ++ rest) s.2, below_again (suc (binding o)) b s.1 rest s.3 low ends) refl

  chosen_again : (c a b : ExpressionTree) (ts rest : List Token) → (Sign P.Question ⨾ IsExpressionAt 0 a ⨾ Sign P.Colon ⨾ IsExpressionAt 0 b) ts → expression_height a ≤ fuel → expression_height b ≤ fuel → Ends 0 rest → chosen below c (ts ++ rest) ≡ Ok (E.Conditional c a b, rest)
  unfolding chosen
  chosen_again c a b ts rest s low low' ends =
      let p = s.3 in
      let q = p.3 in
      let split = parts_behind p.1 q.0 q.1 rest q.4 in
      let colon : Ends 0 (p.1 ++ rest) = rw split (ends_behind P.Colon refl refl refl 0 q.0 (q.1 ++ rest) q.2) in
      let first = below_again 0 a p.0 (p.1 ++ rest) p.2 low colon in
      rw (
        parts_behind ts s.0 s.1 rest s.4,
        sign_again P.Question s.0 (s.1 ++ rest) s.2,
        parts_behind s.1 p.0 p.1 rest p.4,
        first,
        split,
        sign_again P.Colon q.0 (q.1 ++ rest) q.2,
        below_again 0 b q.1 rest q.3 low' ends,
      ) refl

  chain_operator : (level count : ℕ) (o : BinaryOperator) (a b : ExpressionTree) (ts rest : List Token) → level ≤ binding o → (Sign (binary_sign o) ⨾ IsExpressionAt (suc (binding o)) b) ts → expression_height a ≤ fuel → expression_height b ≤ fuel → Ends (suc (binding o)) rest → chain below fuel level (suc count) a (ts ++ rest) ≡ chain below fuel level count (E.Binary o a b) rest
  unfolding chain
  chain_operator level count o a b ts rest le s low low' ends =
      let is : next level (ts ++ rest) ≡ Operator o = rw (parts_behind ts s.0 s.1 rest s.4) (next_operator level o s.0 (s.1 ++ rest) le s.2) in
      rw (is, le-leb (expression_height a) fuel low, operated_again o a b ts rest s low' ends) refl

  chain_choice : (count : ℕ) (c a b : ExpressionTree) (ts rest : List Token) → (Sign P.Question ⨾ IsExpressionAt 0 a ⨾ Sign P.Colon ⨾ IsExpressionAt 0 b) ts → expression_height c ≤ fuel → expression_height a ≤ fuel → expression_height b ≤ fuel → Ends 0 rest → chain below fuel 0 (suc count) c (ts ++ rest) ≡ Ok (E.Conditional c a b, rest)
  unfolding chain
  chain_choice count c a b ts rest s low low' low'' ends =
      let is : next 0 (ts ++ rest) ≡ Choice = rw (parts_behind ts s.0 s.1 rest s.4) (next_choice s.0 (s.1 ++ rest) s.2) in
      rw (is, le-leb (expression_height c) fuel low, chosen_again c a b ts rest s low' low'' ends) refl

  chain_stops : (level count : ℕ) (t : ExpressionTree) (rest : List Token) → Stops level rest → chain below fuel level count t rest ≡ Ok (t, rest)
  unfolding chain
  chain_stops level zero t rest stops = rw stops refl
  chain_stops level (suc count) t rest stops = rw stops refl

  abbrev climbed : (level count : ℕ) → Reading ExpressionTree
  climbed level count ts = operand below ts >>= λ left. chain below fuel level count left.0 left.1

  climbed_operand : (level count : ℕ) (t : ExpressionTree) (ts rest : List Token) → operand below ts ≡ Ok (t, rest) → climbed level (0 + count) ts ≡ chain below fuel level count t rest
  climbed_operand level count t ts rest e = rw (zero-add count, e) refl

  -- An operand, and behind it the operators on the left edge: so many counts less are left.
  spine_again : (t : ExpressionTree) (m level count : ℕ) (xs rest : List Token) → IsExpressionAt m t xs → 1 ≤ m → level ≤ m → expression_height t ≤ suc fuel → Ends (suc m) rest → climbed level (spine t + count) (xs ++ rest) ≡ chain below fuel level count t rest
  spine_again (E.Number c) m level count xs rest s one le low ends =
      climbed_operand level count (E.Number c) (xs ++ rest) rest (operand_one below (T.Constant c) xs rest s ∙ number_again c xs rest s)
  spine_again (E.Variable x) m level count xs rest s one le low ends =
      climbed_operand level count (E.Variable x) (xs ++ rest) rest (operand_name below x xs rest s ∙ variable_again x xs rest s ends.no_index)
  spine_again (E.Element a e) m level count xs rest s one le low ends =
      climbed_operand level count (E.Element a e) (xs ++ rest) rest (element_operand a e xs rest s (omega arith))
  spine_again (E.Parenthesis e) m level count xs rest s one le low ends =
      climbed_operand level count (E.Parenthesis e) (xs ++ rest) rest (parenthesis_operand e xs rest s (omega arith))
  spine_again (E.Cast t e) m level count xs rest s one le low ends =
      climbed_operand level count (E.Cast t e) (xs ++ rest) rest (cast_operand t e xs rest s (omega arith) (record { stops = stops_operand operand_level rest (omega arith); no_index = ends.no_index }))
  spine_again (E.Unary o e) m level count xs rest s one le low ends =
      climbed_operand level count (E.Unary o e) (xs ++ rest) rest (unary_operand o e xs rest s (omega arith) (record { stops = stops_operand operand_level rest (omega arith); no_index = ends.no_index }))
  spine_again (E.Binary o a b) m level count xs rest s one le low ends =
      let at = s.0 in
      let p = s.1 in
      let q = p.3 in
      let split = parts_behind xs p.0 p.1 rest p.4 in
      let behind : Ends (suc (binding o)) (p.1 ++ rest) = rw (parts_behind p.1 q.0 q.1 rest q.4) (ends_operator o q.0 (q.1 ++ rest) q.2) in
      let left = spine_again a (binding o) level (suc count) p.0 (p.1 ++ rest) p.2 (omega arith) (omega arith) (omega arith) behind in
      let right = chain_operator level count o a b p.1 rest (omega arith) q (omega arith) (omega arith) (ends_above (suc m) (suc (binding o)) rest (omega arith) ends) in
      let moved : suc (spine a) + count ≡ spine a + suc count = omega arith in
      rw (moved, split) (left ∙ right)
  spine_again (E.Conditional c a b) m level count xs rest s one le low ends = absurd (let at = s.0 in omega arith)

  -- at a level that is no whole expression's
  climbed_again : (t : ExpressionTree) (m level : ℕ) (xs rest : List Token) → IsExpressionAt m t xs → 1 ≤ m → level ≤ m → expression_height t ≤ suc fuel → Ends level rest → climbed level fuel (xs ++ rest) ≡ Ok (t, rest)
  climbed_again t m level xs rest s one le low ends =
      let few = spine-low t in
      let counted : fuel ≡ spine t + (fuel - spine t) = omega arith in
      ap (λ count. climbed level count (xs ++ rest)) counted
      ∙ spine_again t m level (fuel - spine t) xs rest s one le low (ends_above level (suc m) rest (omega arith) ends)
      ∙ chain_stops level (fuel - spine t) t rest ends.stops

  conditional_again : (c a b : ExpressionTree) (xs rest : List Token) → (IsExpressionAt 1 c ⨾ Sign P.Question ⨾ IsExpressionAt 0 a ⨾ Sign P.Colon ⨾ IsExpressionAt 0 b) xs → expression_height (E.Conditional c a b) ≤ suc fuel → Ends 0 rest → climbed 0 fuel (xs ++ rest) ≡ Ok (E.Conditional c a b, rest)
  conditional_again c a b xs rest s low ends =
      let p = s.3 in
      let few = spine-low c in
      let count = fuel - suc (spine c) in
      let counted : fuel ≡ spine c + suc (fuel - suc (spine c)) = omega arith in
      let split = parts_behind xs s.0 s.1 rest s.4 in
      let behind : Ends 2 (s.1 ++ rest) = rw (parts_behind s.1 p.0 p.1 rest p.4) (ends_choice 1 p.0 (p.1 ++ rest) p.2) in
      ap (λ count. climbed 0 count (xs ++ rest)) counted
      ∙ ap (λ ts. climbed 0 (spine c + suc (fuel - suc (spine c))) ts) split
      ∙ spine_again c 1 0 (suc (fuel - suc (spine c))) s.0 (s.1 ++ rest) s.2 (omega arith) (omega arith) (omega arith) behind
      ∙ chain_choice (fuel - suc (spine c)) c a b s.1 rest s.3 (omega arith) (omega arith) (omega arith) ends

  -- an expression with fuel for one level more
  pub level_again : (level : ℕ) (t : ExpressionTree) (xs rest : List Token) → IsExpressionAt level t xs → expression_height t ≤ suc fuel → Ends level rest → climbed level fuel (xs ++ rest) ≡ Ok (t, rest)
  level_again level (E.Number c) xs rest s low ends = climbed_again (E.Number c) (suc level) level xs rest s (omega arith) (omega arith) low ends
  level_again level (E.Variable x) xs rest s low ends = climbed_again (E.Variable x) (suc level) level xs rest s (omega arith) (omega arith) low ends
  level_again level (E.Element a e) xs rest s low ends = climbed_again (E.Element a e) (suc level) level xs rest s (omega arith) (omega arith) low ends
  level_again level (E.Parenthesis e) xs rest s low ends = climbed_again (E.Parenthesis e) (suc level) level xs rest s (omega arith) (omega arith) low ends
  level_again level (E.Cast t e) xs rest s low ends = climbed_again (E.Cast t e) (suc level) level xs rest s (omega arith) (omega arith) low ends
  level_again level (E.Unary o e) xs rest s low ends = climbed_again (E.Unary o e) (suc level) level xs rest s (omega arith) (omega arith) low ends
  level_again level (E.Binary o a b) xs rest s low ends =
      let above = (is_operator o).above in
      climbed_again (E.Binary o a b) (binding o) level xs rest (omega arith, s.1) above s.0 low ends
  level_again level (E.Conditional c a b) xs rest s low ends =
      rw s.0 (conditional_again c a b xs rest s.1 low (subst (λ l. Ends l rest) s.0 ends))
