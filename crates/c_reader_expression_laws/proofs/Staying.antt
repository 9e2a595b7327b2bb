-- With more fuel the same is read, unless there was too little.
use Rattle.std.proofs.Common.{◌≡◌, ℕ, zero, suc, ◌≤◌, Bool, true, false, cond, leb, List, [], ◌∷◌, Option, Some, None, Result, Ok, Err, inl, inr, refl, arith}
use Rattle.std.specs.Prelude.{◌||◌, is_some}
use Rattle.std.proofs.lemmas.Bool.{leb-true, le-leb}
use Rattle.c_syntax.specs.declared.punctuator.Punctuator.TheVariants as P
use Rattle.c_syntax.specs.declared.token.Token.{Token}
use Rattle.c_syntax.specs.declared.token.TokenKind.{TokenKind}
use Rattle.c_syntax.specs.declared.token.TokenKind.TheVariants as T
use Rattle.c_syntax.specs.declared.identifier.Identifier.{Identifier}
use Rattle.c_syntax.specs.declared.expression.UnaryOperator.{UnaryOperator}
use Rattle.c_syntax.specs.declared.expression.BinaryOperator.{BinaryOperator}
use Rattle.c_syntax.specs.Trees.{ExpressionTree, Variable, Element, Parenthesis, Cast, Unary, Binary, Conditional}
use Rattle.c_syntax.specs.Signs.{unary_sign, binary_sign, binding, operand_level}
use Rattle.c_syntax.specs.Heights.{expression_height}
use Rattle.c_reader_tokens.specs.declared.fault.Fault.{Fault}
use Rattle.c_reader_tokens.specs.declared.fault.Fault.TheVariants.{TooDeep}
use Rattle.c_reader_tokens.specs.Reading.{◌>>=◌, misfit, deep, IsSameOrTooDeep}
use Rattle.c_reader_tokens.specs.Peeking.{is_sign, is_sign_next, is_type_next}
use Rattle.c_reader_tokens.specs.Tokens.{sign, placed_name, integer_type}
use Rattle.c_reader_tokens.proofs.Laws.{done, stays_refl, stays_bind}
use Rattle.c_reader_expression_laws.specs.declared.next.Next.{Next}
use Rattle.c_reader_expression_laws.specs.declared.next.Next.TheVariants.{Operator, Choice, Stop}
use Rattle.c_reader_expression_laws.specs.Operators.{unary_of, next, begins_operand}
use Rattle.c_reader_expression_laws.specs.Operands.{Levels, number, indexed, variable, cast, enclosed, parenthesized, signed, perhaps_signed, operand_at, operand}
use Rattle.c_reader_expression_laws.specs.Reading.{operated, chosen, if_fuel, by_next, chain}
use Rattle.c_reader_expression_laws.proofs.Taking.{Found}

stays_if : (b : Bool) (x y u v : Result Found Fault) → IsSameOrTooDeep x u → IsSameOrTooDeep y v → IsSameOrTooDeep (cond b x y) (cond b u v)
stays_if true x y u v first second = first
stays_if false x y u v first second = second

-- where no fuel is left, the next token alone tells a fault
perhaps_deep : (below : Levels) (f : Found → Result Found Fault) (found : Option UnaryOperator) (t : Token) (ts : List Token) → IsSameOrTooDeep (cond (is_some found) (Err TooDeep) (misfit (t ∷ ts))) (perhaps_signed below found (t ∷ ts) >>= f)
perhaps_deep below f None t ts = inr refl
perhaps_deep below f (Some o) t ts = inl refl

sign_deep : (below : Levels) (f : Found → Result Found Fault) (b : Bool) (found : Option UnaryOperator) (t : Token) (ts : List Token) → IsSameOrTooDeep (cond (b || is_some found) (Err TooDeep) (misfit (t ∷ ts))) (cond b (parenthesized below (t ∷ ts)) (perhaps_signed below found (t ∷ ts)) >>= f)
sign_deep below f true found t ts = inl refl
sign_deep below f false found t ts = perhaps_deep below f found t ts

kind_deep : (below : Levels) (f : Found → Result Found Fault) (kind : TokenKind) (t : Token) (ts : List Token) → IsSameOrTooDeep (cond (begins_operand kind) (Err TooDeep) (misfit (t ∷ ts))) (operand_at below kind (t ∷ ts) >>= f)
kind_deep below f (T.Name x) t ts = inl refl
kind_deep below f (T.Constant c) t ts = inl refl
kind_deep below f (T.Keyword k) t ts = inr refl
kind_deep below f (T.Punctuator p) t ts = sign_deep below f (is_sign P.LeftParenthesis (T.Punctuator p)) (unary_of p) t ts

pub deep_stays : (below : Levels) (f : Found → Result Found Fault) (ts : List Token) → IsSameOrTooDeep (deep begins_operand ts) (operand below ts >>= f)
unfolding operand
deep_stays below f [] = inr refl
deep_stays below f (t ∷ ts) = kind_deep below f t.kind t ts

module _ (less more : Levels) (below_stays : (level : ℕ) (ts : List Token) → IsSameOrTooDeep (less level ts) (more level ts)) where
  indexed_stays : (a : Identifier) (ts : List Token) → IsSameOrTooDeep (indexed less a ts) (indexed more a ts)
  unfolding indexed
  indexed_stays a ts =
      stays_bind (sign P.LeftBracket ts) (sign P.LeftBracket ts) (λ inner. less 0 inner >>= λ e. sign P.RightBracket e.1 >>= λ rest. done (Element a e.0, rest)) (λ inner. more 0 inner >>= λ e. sign P.RightBracket e.1 >>= λ rest. done (Element a e.0, rest))
      (stays_refl (sign P.LeftBracket ts))
      (λ inner _. stays_bind (less 0 inner) (more 0 inner) (λ e. sign P.RightBracket e.1 >>= λ rest. done (Element a e.0, rest)) (λ e. sign P.RightBracket e.1 >>= λ rest. done (Element a e.0, rest)) (below_stays 0 inner) (λ e _. stays_refl _))

  variable_stays : (ts : List Token) → IsSameOrTooDeep (variable less ts) (variable more ts)
  unfolding variable
  variable_stays ts =
      stays_bind (placed_name ts) (placed_name ts) (λ x. cond (is_sign_next P.LeftBracket x.1) (indexed less x.0 x.1) (done (Variable x.0, x.1))) (λ x. cond (is_sign_next P.LeftBracket x.1) (indexed more x.0 x.1) (done (Variable x.0, x.1)))
      (stays_refl (placed_name ts))
      (λ x _. stays_if (is_sign_next P.LeftBracket x.1) (indexed less x.0 x.1) (done (Variable x.0, x.1)) (indexed more x.0 x.1) (done (Variable x.0, x.1)) (indexed_stays x.0 x.1) (stays_refl _))

  enclosed_stays : (ts : List Token) → IsSameOrTooDeep (enclosed less ts) (enclosed more ts)
  unfolding enclosed
  enclosed_stays ts =
      stays_bind (less 0 ts) (more 0 ts) (λ e. sign P.RightParenthesis e.1 >>= λ rest. done (Parenthesis e.0, rest)) (λ e. sign P.RightParenthesis e.1 >>= λ rest. done (Parenthesis e.0, rest)) (below_stays 0 ts) (λ e _. stays_refl _)

  cast_stays : (ts : List Token) → IsSameOrTooDeep (cast less ts) (cast more ts)
  unfolding cast
  cast_stays ts =
      stays_bind (integer_type ts) (integer_type ts) (λ t. sign P.RightParenthesis t.1 >>= λ rest. less operand_level rest >>= λ e. done (Cast t.0 e.0, e.1)) (λ t. sign P.RightParenthesis t.1 >>= λ rest. more operand_level rest >>= λ e. done (Cast t.0 e.0, e.1))
      (stays_refl (integer_type ts))
      (λ t _. stays_bind (sign P.RightParenthesis t.1) (sign P.RightParenthesis t.1) (λ rest. less operand_level rest >>= λ e. done (Cast t.0 e.0, e.1)) (λ rest. more operand_level rest >>= λ e. done (Cast t.0 e.0, e.1))
      (stays_refl (sign P.RightParenthesis t.1))
      (λ rest _. stays_bind (less operand_level rest) (more operand_level rest) (λ e. done (Cast t.0 e.0, e.1)) (λ e. done (Cast t.0 e.0, e.1)) (below_stays operand_level rest) (λ e _. stays_refl _)))

  parenthesized_stays : (ts : List Token) → IsSameOrTooDeep (parenthesized less ts) (parenthesized more ts)
  unfolding parenthesized
  parenthesized_stays ts =
      stays_bind (sign P.LeftParenthesis ts) (sign P.LeftParenthesis ts) (λ inner. cond (is_type_next inner) (cast less inner) (enclosed less inner)) (λ inner. cond (is_type_next inner) (cast more inner) (enclosed more inner))
      (stays_refl (sign P.LeftParenthesis ts))
      (λ inner _. stays_if (is_type_next inner) (cast less inner) (enclosed less inner) (cast more inner) (enclosed more inner) (cast_stays inner) (enclosed_stays inner))

  signed_stays : (o : UnaryOperator) (ts : List Token) → IsSameOrTooDeep (signed less o ts) (signed more o ts)
  unfolding signed
  signed_stays o ts =
      stays_bind (sign (unary_sign o) ts) (sign (unary_sign o) ts) (λ inner. less operand_level inner >>= λ e. done (Unary o e.0, e.1)) (λ inner. more operand_level inner >>= λ e. done (Unary o e.0, e.1))
      (stays_refl (sign (unary_sign o) ts))
      (λ inner _. stays_bind (less operand_level inner) (more operand_level inner) (λ e. done (Unary o e.0, e.1)) (λ e. done (Unary o e.0, e.1)) (below_stays operand_level inner) (λ e _. stays_refl _))

  perhaps_stays : (found : Option UnaryOperator) (ts : List Token) → IsSameOrTooDeep (perhaps_signed less found ts) (perhaps_signed more found ts)
  perhaps_stays None ts = stays_refl (misfit ts)
  perhaps_stays (Some o) ts = signed_stays o ts

  operand_at_stays : (kind : TokenKind) (ts : List Token) → IsSameOrTooDeep (operand_at less kind ts) (operand_at more kind ts)
  operand_at_stays (T.Name x) ts = variable_stays ts
  operand_at_stays (T.Constant c) ts = stays_refl (number ts)
  operand_at_stays (T.Keyword k) ts = stays_refl (misfit ts)
  operand_at_stays (T.Punctuator p) ts =
      stays_if (is_sign P.LeftParenthesis (T.Punctuator p)) (parenthesized less ts) (perhaps_signed less (unary_of p) ts) (parenthesized more ts) (perhaps_signed more (unary_of p) ts) (parenthesized_stays ts) (perhaps_stays (unary_of p) ts)

  pub operand_stays : (ts : List Token) → IsSameOrTooDeep (operand less ts) (operand more ts)
  unfolding operand
  operand_stays [] = inr refl
  operand_stays (t ∷ ts) = operand_at_stays t.kind (t ∷ ts)

  operated_stays : (o : BinaryOperator) (left : ExpressionTree) (ts : List Token) → IsSameOrTooDeep (operated less o left ts) (operated more o left ts)
  unfolding operated
  operated_stays o left ts =
      stays_bind (sign (binary_sign o) ts) (sign (binary_sign o) ts) (λ inner. less (suc (binding o)) inner >>= λ b. done (Binary o left b.0, b.1)) (λ inner. more (suc (binding o)) inner >>= λ b. done (Binary o left b.0, b.1))
      (stays_refl (sign (binary_sign o) ts))
      (λ inner _. stays_bind (less (suc (binding o)) inner) (more (suc (binding o)) inner) (λ b. done (Binary o left b.0, b.1)) (λ b. done (Binary o left b.0, b.1)) (below_stays (suc (binding o)) inner) (λ b _. stays_refl _))

  chosen_stays : (c : ExpressionTree) (ts : List Token) → IsSameOrTooDeep (chosen less c ts) (chosen more c ts)
  unfolding chosen
  chosen_stays c ts =
      stays_bind (sign P.Question ts) (sign P.Question ts) (λ inner. less 0 inner >>= λ a. sign P.Colon a.1 >>= λ other. less 0 other >>= λ b. done (Conditional c a.0 b.0, b.1)) (λ inner. more 0 inner >>= λ a. sign P.Colon a.1 >>= λ other. more 0 other >>= λ b. done (Conditional c a.0 b.0, b.1))
      (stays_refl (sign P.Question ts))
      (λ inner _. stays_bind (less 0 inner) (more 0 inner) (λ a. sign P.Colon a.1 >>= λ other. less 0 other >>= λ b. done (Conditional c a.0 b.0, b.1)) (λ a. sign P.Colon a.1 >>= λ other. more 0 other >>= λ b. done (Conditional c a.0 b.0, b.1))
      (below_stays 0 inner)
      (λ a _. stays_bind (sign P.Colon a.1) (sign P.Colon a.1) (λ other. less 0 other >>= λ b. done (Conditional c a.0 b.0, b.1)) (λ other. more 0 other >>= λ b. done (Conditional c a.0 b.0, b.1))
      (stays_refl (sign P.Colon a.1))
      (λ other _. stays_bind (less 0 other) (more 0 other) (λ b. done (Conditional c a.0 b.0, b.1)) (λ b. done (Conditional c a.0 b.0, b.1)) (below_stays 0 other) (λ b _. stays_refl _))))

  module _ (fuel wide : ℕ) (le : fuel ≤ wide) where
    if_fuel_by : (left : ExpressionTree) (x y : Result Found Fault) (b : Bool) → leb (expression_height left) fuel ≡ b → IsSameOrTooDeep x y → IsSameOrTooDeep (cond b x (Err TooDeep)) (if_fuel wide left y)
    if_fuel_by left x y true e stays =
        let low = leb-true (expression_height left) fuel e in
        rw (le-leb (expression_height left) wide (omega arith)) stays
    if_fuel_by left x y false e stays = inl refl

    if_fuel_stays : (left : ExpressionTree) (x y : Result Found Fault) → IsSameOrTooDeep x y → IsSameOrTooDeep (if_fuel fuel left x) (if_fuel wide left y)
    if_fuel_stays left x y stays = if_fuel_by left x y (leb (expression_height left) fuel) refl stays

    by_next_stays : (n : Next) (f g : BinaryOperator → Result Found Fault) (x y : Result Found Fault) (stop : Found) → ((o : BinaryOperator) → IsSameOrTooDeep (f o) (g o)) → IsSameOrTooDeep x y → IsSameOrTooDeep (by_next n f x (Ok stop)) (by_next n g y (Ok stop))
    by_next_stays (Operator o) f g x y stop operator choice = operator o
    by_next_stays Choice f g x y stop operator choice = choice
    by_next_stays Stop f g x y stop operator choice = inr refl

    pub chain_stays : (level few many : ℕ) (left : ExpressionTree) (ts : List Token) → few ≤ many → IsSameOrTooDeep (chain less fuel level few left ts) (chain more wide level many left ts)
    unfolding chain
    chain_stays level zero zero left ts many = by_next_stays (next level ts) (λ o. Err TooDeep) (λ o. Err TooDeep) (Err TooDeep) (Err TooDeep) (left, ts) (λ o. inl refl) (inl refl)
    chain_stays level zero (suc count) left ts many =
        by_next_stays (next level ts) (λ o. Err TooDeep) (λ o. if_fuel wide left (operated more o left ts) >>= (λ whole. chain more wide level count whole.0 whole.1)) (Err TooDeep) (if_fuel wide left (chosen more left ts)) (left, ts) (λ o. inl refl) (inl refl)
    chain_stays level (suc few) zero left ts many = absurd (omega arith)
    chain_stays level (suc few) (suc count) left ts many =
        by_next_stays (next level ts)
        (λ o. if_fuel fuel left (operated less o left ts) >>= (λ whole. chain less fuel level few whole.0 whole.1))
        (λ o. if_fuel wide left (operated more o left ts) >>= (λ whole. chain more wide level count whole.0 whole.1))
        (if_fuel fuel left (chosen less left ts))
        (if_fuel wide left (chosen more left ts))
        (left, ts)
        (λ o. stays_bind (if_fuel fuel left (operated less o left ts)) (if_fuel wide left (operated more o left ts)) (λ whole. chain less fuel level few whole.0 whole.1) (λ whole. chain more wide level count whole.0 whole.1)
        (if_fuel_stays left (operated less o left ts) (operated more o left ts) (operated_stays o left ts))
        (λ whole _. chain_stays level few count whole.0 whole.1 (omega arith)))
        (if_fuel_stays left (chosen less left ts) (chosen more left ts) (chosen_stays left ts))
