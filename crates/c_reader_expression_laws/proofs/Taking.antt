-- What is read is spelled at its level, is low, and does not go on.
use Rattle.std.proofs.Common.{◌≡◌, ℕ, zero, suc, ◌≤◌, cond, leb, List, [], ◌∷◌, ◌++◌, Option, Some, None, Result, Ok, Err, inl, inr, refl, subst, arith}
use Rattle.std.proofs.lemmas.Bool.{leb-true}
use Rattle.c_syntax.proofs.Parts.{chosen as which}
use Rattle.c_syntax.specs.declared.punctuator.Punctuator.TheVariants as P
use Rattle.c_syntax.specs.declared.token.Token.{Token}
use Rattle.c_syntax.specs.declared.token.TokenKind.{TokenKind}
use Rattle.c_syntax.specs.declared.token.TokenKind.TheVariants as T
use Rattle.c_syntax.specs.declared.identifier.Identifier.{Identifier}
use Rattle.c_syntax.specs.declared.expression.UnaryOperator.{UnaryOperator}
use Rattle.c_syntax.specs.declared.expression.BinaryOperator.{BinaryOperator}
use Rattle.c_syntax.specs.Trees.{ExpressionTree, Number, Variable, Element, Parenthesis, Cast, Unary, Binary, Conditional}
use Rattle.c_syntax.specs.Signs.{unary_sign, binary_sign, binding, operand_level}
use Rattle.c_syntax.specs.Heights.{expression_height}
use Rattle.c_syntax.specs.Expressions.{IsExpressionAt}
use Rattle.c_syntax.specs.Parts.{Sign, IsName}
use Rattle.c_reader_tokens.specs.declared.fault.Fault.{Fault}
use Rattle.c_reader_tokens.specs.declared.fault.Fault.TheVariants.{TooDeep}
use Rattle.c_reader_tokens.specs.Reading.{◌>>=◌, Takes}
use Rattle.c_reader_tokens.specs.Peeking.{is_sign, is_sign_next, is_type_next}
use Rattle.c_reader_tokens.specs.Tokens.{sign, placed_name, constant, integer_type}
use Rattle.c_reader_tokens.proofs.Laws.{done, ok_is, bind_ok, takes_then}
use Rattle.c_reader_tokens.proofs.Tokens.{sign_takes, placed_name_takes, constant_takes, integer_type_takes}
use Rattle.c_reader_expression_laws.specs.declared.next.Next.TheVariants.{Operator, Choice, Stop}
use Rattle.c_reader_expression_laws.specs.Operators.{unary_of, next, Stops}
use Rattle.c_reader_expression_laws.specs.Operands.{Levels, number, indexed, variable, cast, enclosed, parenthesized, signed, perhaps_signed, operand_at, operand}
use Rattle.c_reader_expression_laws.specs.Reading.{operated, chosen, if_fuel, by_next, chain}
use Rattle.c_reader_expression_laws.proofs.Continuing.{is_operator, next-between, choice_level, height-positive, lower_level}

abbrev pub Found : Type 0
Found = ExpressionTree × List Token

-- what is found behind tokens, at a level: it is spelled so, is low, and does not go on
pub record Reads (fuel level : ℕ) (ts : List Token) (r : Found) : Type 0 where
  pub takes : Takes (IsExpressionAt level r.0) ts r.1
  pub low : expression_height r.0 ≤ fuel
  pub stops : Stops level r.1

-- an operand is spelled so at every level, whatever is behind it
pub record ReadsOperand (fuel : ℕ) (ts : List Token) (r : Found) : Type 0 where
  pub front : List Token
  pub spelled : (level : ℕ) → IsExpressionAt level r.0 front
  pub parts : ts ≡ front ++ r.1
  pub low : expression_height r.0 ≤ fuel

-- the last step of a reading
ends_in : (P : Found → Type 0) (q r : Found) → done q ≡ done r → P q → P r
ends_in P q r e p = subst P (ok_is q r e) p

module _ (below : Levels) (fuel : ℕ) (below_takes : (level : ℕ) (ts : List Token) (r : Found) → below level ts ≡ Ok r → Reads fuel level ts r) where
  number_takes : (ts : List Token) (r : Found) → number ts ≡ Ok r → ReadsOperand (suc fuel) ts r
  unfolding number
  number_takes ts r e =
      let c = bind_ok (constant ts) (λ c. done (Number c.0, c.1)) r e in
      let first = constant_takes ts c.0.0 c.0.1 c.1 in
      ends_in (ReadsOperand (suc fuel) ts) (Number c.0.0, c.0.1) r c.2 (record {
        front = first.front;
        spelled = λ level. first.spelled;
        parts = first.parts;
        low = omega arith;
      })

  indexed_takes : (all : List Token) (a : Identifier) (ts : List Token) (r : Found) → Takes (IsName a) all ts → indexed below a ts ≡ Ok r → ReadsOperand (suc fuel) all r
  unfolding indexed
  indexed_takes all a ts r name e =
      let i = bind_ok (sign P.LeftBracket ts) (λ inner. below 0 inner >>= λ e. sign P.RightBracket e.1 >>= λ rest. done (Element a e.0, rest)) r e in
      let x = bind_ok (below 0 i.0) (λ e. sign P.RightBracket e.1 >>= λ rest. done (Element a e.0, rest)) r i.2 in
      let c = bind_ok (sign P.RightBracket x.0.1) (λ rest. done (Element a x.0.0, rest)) r x.2 in
      let inner = below_takes 0 i.0 x.0 x.1 in
      let whole = takes_then name (takes_then (sign_takes P.LeftBracket ts i.0 i.1) (takes_then inner.takes (sign_takes P.RightBracket x.0.1 c.0 c.1))) in
      let one = height-positive x.0.0 in
      let low = inner.low in
      ends_in (ReadsOperand (suc fuel) all) (Element a x.0.0, c.0) r c.2 (record {
        front = whole.front;
        spelled = λ level. whole.spelled;
        parts = whole.parts;
        low = omega arith;
      })

  variable_takes : (ts : List Token) (r : Found) → variable below ts ≡ Ok r → ReadsOperand (suc fuel) ts r
  unfolding variable
  variable_takes ts r e =
      let x = bind_ok (placed_name ts) (λ x. cond (is_sign_next P.LeftBracket x.1) (indexed below x.0 x.1) (Ok (Variable x.0, x.1))) r e in
      let name = placed_name_takes ts x.0.0 x.0.1 x.1 in
      elim (which (is_sign_next P.LeftBracket x.0.1) (indexed below x.0.0 x.0.1) (Ok (Variable x.0.0, x.0.1)) (done r) x.2) [
        | inl holds ↦ indexed_takes ts x.0.0 x.0.1 r name holds.1
        | inr fails ↦ ends_in (ReadsOperand (suc fuel) ts) (Variable x.0.0, x.0.1) r fails.1 (record {
          front = name.front;
          spelled = λ level. name.spelled;
          parts = name.parts;
          low = omega arith;
        })
      ]

  cast_takes : (all ts : List Token) (r : Found) → Takes (Sign P.LeftParenthesis) all ts → cast below ts ≡ Ok r → ReadsOperand (suc fuel) all r
  unfolding cast
  cast_takes all ts r opening e =
      let t = bind_ok (integer_type ts) (λ t. sign P.RightParenthesis t.1 >>= λ rest. below operand_level rest >>= λ e. done (Cast t.0 e.0, e.1)) r e in
      let c = bind_ok (sign P.RightParenthesis t.0.1) (λ rest. below operand_level rest >>= λ e. done (Cast t.0.0 e.0, e.1)) r t.2 in
      let x = bind_ok (below operand_level c.0) (λ e. done (Cast t.0.0 e.0, e.1)) r c.2 in
      let inner = below_takes operand_level c.0 x.0 x.1 in
      let whole = takes_then opening (takes_then (integer_type_takes ts t.0.0 t.0.1 t.1) (takes_then (sign_takes P.RightParenthesis t.0.1 c.0 c.1) inner.takes)) in
      let low = inner.low in
      ends_in (ReadsOperand (suc fuel) all) (Cast t.0.0 x.0.0, x.0.1) r x.2 (record {
        front = whole.front;
        spelled = λ level. whole.spelled;
        parts = whole.parts;
        low = omega arith;
      })

  enclosed_takes : (all ts : List Token) (r : Found) → Takes (Sign P.LeftParenthesis) all ts → enclosed below ts ≡ Ok r → ReadsOperand (suc fuel) all r
  unfolding enclosed
  enclosed_takes all ts r opening e =
      let x = bind_ok (below 0 ts) (λ e. sign P.RightParenthesis e.1 >>= λ rest. done (Parenthesis e.0, rest)) r e in
      let c = bind_ok (sign P.RightParenthesis x.0.1) (λ rest. done (Parenthesis x.0.0, rest)) r x.2 in
      let inner = below_takes 0 ts x.0 x.1 in
      let whole = takes_then opening (takes_then inner.takes (sign_takes P.RightParenthesis x.0.1 c.0 c.1)) in
      let low = inner.low in
      ends_in (ReadsOperand (suc fuel) all) (Parenthesis x.0.0, c.0) r c.2 (record {
        front = whole.front;
        spelled = λ level. whole.spelled;
        parts = whole.parts;
        low = omega arith;
      })

  parenthesized_takes : (ts : List Token) (r : Found) → parenthesized below ts ≡ Ok r → ReadsOperand (suc fuel) ts r
  unfolding parenthesized
  parenthesized_takes ts r e =
      let i = bind_ok (sign P.LeftParenthesis ts) (λ inner. cond (is_type_next inner) (cast below inner) (enclosed below inner)) r e in
      let opening = sign_takes P.LeftParenthesis ts i.0 i.1 in
      elim (which (is_type_next i.0) (cast below i.0) (enclosed below i.0) (done r) i.2) [
        | inl holds ↦ cast_takes ts i.0 r opening holds.1
        | inr fails ↦ enclosed_takes ts i.0 r opening fails.1
      ]

  signed_takes : (o : UnaryOperator) (ts : List Token) (r : Found) → signed below o ts ≡ Ok r → ReadsOperand (suc fuel) ts r
  unfolding signed
  signed_takes o ts r e =
      let i = bind_ok (sign (unary_sign o) ts) (λ inner. below operand_level inner >>= λ e. done (Unary o e.0, e.1)) r e in
      let x = bind_ok (below operand_level i.0) (λ e. done (Unary o e.0, e.1)) r i.2 in
      let inner = below_takes operand_level i.0 x.0 x.1 in
      let whole = takes_then (sign_takes (unary_sign o) ts i.0 i.1) inner.takes in
      let low = inner.low in
      ends_in (ReadsOperand (suc fuel) ts) (Unary o x.0.0, x.0.1) r x.2 (record {
        front = whole.front;
        spelled = λ level. whole.spelled;
        parts = whole.parts;
        low = omega arith;
      })

  perhaps_takes : (found : Option UnaryOperator) (t : Token) (ts : List Token) (r : Found) → perhaps_signed below found (t ∷ ts) ≡ Ok r → ReadsOperand (suc fuel) (t ∷ ts) r
  perhaps_takes None t ts r e = absurd cc
  perhaps_takes (Some o) t ts r e = signed_takes o (t ∷ ts) r e

  operand_at_takes : (kind : TokenKind) (t : Token) (ts : List Token) (r : Found) → operand_at below kind (t ∷ ts) ≡ Ok r → ReadsOperand (suc fuel) (t ∷ ts) r
  operand_at_takes (T.Name x) t ts r e = variable_takes (t ∷ ts) r e
  operand_at_takes (T.Constant c) t ts r e = number_takes (t ∷ ts) r e
  operand_at_takes (T.Keyword k) t ts r e = absurd cc
  operand_at_takes (T.Punctuator p) t ts r e =
      elim (which (is_sign P.LeftParenthesis (T.Punctuator p)) (parenthesized below (t ∷ ts)) (perhaps_signed below (unary_of p) (t ∷ ts)) (done r) e) [
        | inl holds ↦ parenthesized_takes (t ∷ ts) r holds.1
        | inr fails ↦ perhaps_takes (unary_of p) t ts r fails.1
      ]

  pub operand_takes : (ts : List Token) (r : Found) → operand below ts ≡ Ok r → ReadsOperand (suc fuel) ts r
  unfolding operand
  operand_takes [] r e = absurd cc
  operand_takes (t ∷ ts) r e = operand_at_takes t.kind t ts r e

  -- ---- behind a left operand

  -- a left operand that binds so strongly that the next operator does not belong into it
  pub record IsLeft (m : ℕ) (whole : List Token) (left : ExpressionTree) (ts : List Token) : Type 0 where
    pub takes : Takes (IsExpressionAt m left) whole ts
    pub above : 1 ≤ m
    pub stops : Stops (suc m) ts
    pub low : expression_height left ≤ suc fuel

  fuel_is : (left : ExpressionTree) (next : Result Found Fault) (r : Found) → if_fuel fuel left next ≡ Ok r → (expression_height left ≤ fuel) × (next ≡ Ok r)
  fuel_is left next r e =
      elim (which (leb (expression_height left) fuel) next (Err TooDeep) (done r) e) [
        | inl holds ↦ (leb-true (expression_height left) fuel holds.0, holds.1)
        | inr fails ↦ absurd (let f = fails.1 in cc)
      ]

  operated_takes : (level m : ℕ) (whole : List Token) (left : ExpressionTree) (o : BinaryOperator) (ts : List Token) (r : Found) → IsLeft m whole left ts → expression_height left ≤ fuel → next level ts ≡ Operator o → operated below o left ts ≡ Ok r → (level ≤ binding o) × IsLeft (binding o) whole r.0 r.1
  unfolding operated
  operated_takes level m whole left o ts r before fits is e =
      let i = bind_ok (sign (binary_sign o) ts) (λ inner. below (suc (binding o)) inner >>= λ b. done (Binary o left b.0, b.1)) r e in
      let x = bind_ok (below (suc (binding o)) i.0) (λ b. done (Binary o left b.0, b.1)) r i.2 in
      let right = below_takes (suc (binding o)) i.0 x.0 x.1 in
      let between = next-between level (suc m) ts o is before.stops in
      let strong = (is_operator o).above in
      let t = before.takes in
      let lowered : Takes (IsExpressionAt (binding o) left) whole ts = record { front = t.front; spelled = lower_level (binding o) m left t.front (let b = between.1 in omega arith) before.above t.spelled; parts = t.parts } in
      let all = takes_then lowered (takes_then (sign_takes (binary_sign o) ts i.0 i.1) right.takes) in
      let low = right.low in (
        between.0,
        ends_in (λ r. IsLeft (binding o) whole r.0 r.1) (Binary o left x.0.0, x.0.1) r x.2 (record {
          takes = record { front = all.front; spelled = (omega arith, all.spelled); parts = all.parts };
          above = strong;
          stops = right.stops;
          low = omega arith;
        }),
      )

  chosen_takes : (level m : ℕ) (whole : List Token) (left : ExpressionTree) (ts : List Token) (r : Found) → IsLeft m whole left ts → expression_height left ≤ fuel → level ≡ 0 → chosen below left ts ≡ Ok r → Reads (suc fuel) level whole r
  unfolding chosen
  chosen_takes level m whole left ts r before fits zero_level e =
      let i = bind_ok (sign P.Question ts) (λ inner. below 0 inner >>= λ a. sign P.Colon a.1 >>= λ other. below 0 other >>= λ b. done (Conditional left a.0 b.0, b.1)) r e in
      let a = bind_ok (below 0 i.0) (λ a. sign P.Colon a.1 >>= λ other. below 0 other >>= λ b. done (Conditional left a.0 b.0, b.1)) r i.2 in
      let o = bind_ok (sign P.Colon a.0.1) (λ other. below 0 other >>= λ b. done (Conditional left a.0.0 b.0, b.1)) r a.2 in
      let b = bind_ok (below 0 o.0) (λ b. done (Conditional left a.0.0 b.0, b.1)) r o.2 in
      let first = below_takes 0 i.0 a.0 a.1 in
      let second = below_takes 0 o.0 b.0 b.1 in
      let t = before.takes in
      let condition : Takes (IsExpressionAt 1 left) whole ts = record { front = t.front; spelled = lower_level 1 m left t.front before.above before.above t.spelled; parts = t.parts } in
      let all = takes_then condition (takes_then (sign_takes P.Question ts i.0 i.1) (takes_then first.takes (takes_then (sign_takes P.Colon a.0.1 o.0 o.1) second.takes))) in
      let low = first.low in
      let low' = second.low in
      ends_in (Reads (suc fuel) level whole) (Conditional left a.0.0 b.0.0, b.0.1) r b.2 (record {
        takes = record { front = all.front; spelled = (zero_level, all.spelled); parts = all.parts };
        low = omega arith;
        stops = rw zero_level second.stops;
      })

  stop_takes : (level m : ℕ) (whole : List Token) (left : ExpressionTree) (ts : List Token) (r : Found) → level ≤ m → IsLeft m whole left ts → Stops level ts → done (left, ts) ≡ done r → Reads (suc fuel) level whole r
  stop_takes level m whole left ts r le before stops e =
      let t = before.takes in
      ends_in (Reads (suc fuel) level whole) (left, ts) r e (record {
        takes = record { front = t.front; spelled = lower_level level m left t.front le before.above t.spelled; parts = t.parts };
        low = before.low;
        stops = stops;
      })

  pub chain_takes : (level count m : ℕ) (whole : List Token) (left : ExpressionTree) (ts : List Token) (r : Found) → level ≤ m → IsLeft m whole left ts → chain below fuel level count left ts ≡ Ok r → Reads (suc fuel) level whole r
  unfolding chain
  chain_takes level zero m whole left ts r le before e =
      elim (next level ts) as (λ n. next level ts ≡ n → by_next n (λ o. Err TooDeep) (Err TooDeep) (Ok (left, ts)) ≡ Ok r → Reads (suc fuel) level whole r) [
        | Operator o ↦ λ is e. absurd cc
        | Choice ↦ λ is e. absurd cc
        | Stop ↦ λ is e. stop_takes level m whole left ts r le before is e
      ] refl e
  chain_takes level (suc count) m whole left ts r le before e =
      elim (next level ts) as (λ n. next level ts ≡ n → by_next n (λ o. if_fuel fuel left (operated below o left ts) >>= (λ whole. chain below fuel level count whole.0 whole.1)) (if_fuel fuel left (chosen below left ts)) (Ok (left, ts)) ≡ Ok r → Reads (suc fuel) level whole r) [
        | Operator o ↦ λ is e.
            let w = bind_ok (if_fuel fuel left (operated below o left ts)) (λ whole. chain below fuel level count whole.0 whole.1) r e in
            let fits = fuel_is left (operated below o left ts) w.0 w.1 in
            let now = operated_takes level m whole left o ts w.0 before fits.0 is fits.1 in
            chain_takes level count (binding o) whole w.0.0 w.0.1 r now.0 now.1 w.2
        | Choice ↦ λ is e.
            let fits = fuel_is left (chosen below left ts) r e in
            chosen_takes level m whole left ts r before fits.0 (choice_level level ts is) fits.1
        | Stop ↦ λ is e. stop_takes level m whole left ts r le before is e
      ] refl e
