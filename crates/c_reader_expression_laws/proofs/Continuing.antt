-- Operators and their signs, and how an expression goes on or stops.
use Rattle.std.proofs.Common.{◌≡◌, ℕ, zero, suc, ◌≤◌, ◌<◌, Bool, true, false, cond, eqb, leb, List, [], ◌∷◌, ◌++◌, Option, Some, None, inl, inr, refl, sym, ap, ◌∙◌, arith}
use Rattle.std.proofs.lemmas.Bool.{leb-true, leb-false, le-leb, lt-leb, ne_eqb}
use Rattle.c_syntax.proofs.Parts.{chosen as which}
use Rattle.c_syntax.specs.declared.punctuator.Punctuator.{Punctuator}
use Rattle.c_syntax.specs.declared.punctuator.Punctuator.TheVariants as P
use Rattle.c_syntax.specs.declared.token.Token.{Token}
use Rattle.c_syntax.specs.declared.token.TokenKind.TheVariants as T
use Rattle.c_syntax.specs.declared.expression.UnaryOperator.{UnaryOperator}
use Rattle.c_syntax.specs.declared.expression.UnaryOperator.TheVariants as U
use Rattle.c_syntax.specs.declared.expression.BinaryOperator.{BinaryOperator}
use Rattle.c_syntax.specs.declared.expression.BinaryOperator.TheVariants as B
use Rattle.c_syntax.specs.Trees.{ExpressionTree}
use Rattle.c_syntax.specs.Trees as E
use Rattle.c_syntax.specs.Signs.{unary_sign, binary_sign, binding}
use Rattle.c_syntax.specs.Heights.{expression_height}
use Rattle.c_syntax.specs.Expressions.{IsExpressionAt}
use Rattle.c_syntax.specs.Parts.{Sign}
use Rattle.c_reader_tokens.specs.Peeking.{is_sign}
use Rattle.c_reader_expression_laws.specs.declared.next.Next.{Next}
use Rattle.c_reader_expression_laws.specs.declared.next.Next.TheVariants.{Operator, Choice, Stop}
use Rattle.c_reader_expression_laws.specs.Operators.{unary_of, binary_of, binary_at, taken_at, next, Stops, Ends}

-- ---- signs

pub unary_of-sign : (o : UnaryOperator) → unary_of (unary_sign o) ≡ Some o
unary_of-sign U.Minus = refl
unary_of-sign U.Plus = refl
unary_of-sign U.Complement = refl
unary_of-sign U.Not = refl

pub unary_is_no_parenthesis : (o : UnaryOperator) → is_sign P.LeftParenthesis (T.Punctuator (unary_sign o)) ≡ false
unary_is_no_parenthesis U.Minus = refl
unary_is_no_parenthesis U.Plus = refl
unary_is_no_parenthesis U.Complement = refl
unary_is_no_parenthesis U.Not = refl

-- how strongly an operator binds, and that its sign stands for it alone
pub record IsOperator (o : BinaryOperator) : Type 0 where
  pub above : 1 ≤ binding o
  pub below : binding o ≤ 10
  pub stands : binary_of (binary_sign o) ≡ Some o
  pub no_choice : is_sign P.Question (T.Punctuator (binary_sign o)) ≡ false
  pub no_index : is_sign P.LeftBracket (T.Punctuator (binary_sign o)) ≡ false

pub is_operator : (o : BinaryOperator) → IsOperator o
is_operator B.LogicalOr = record { above = omega arith; below = omega arith; stands = refl; no_choice = refl; no_index = refl }
is_operator B.LogicalAnd = record { above = omega arith; below = omega arith; stands = refl; no_choice = refl; no_index = refl }
is_operator B.Or = record { above = omega arith; below = omega arith; stands = refl; no_choice = refl; no_index = refl }
is_operator B.Xor = record { above = omega arith; below = omega arith; stands = refl; no_choice = refl; no_index = refl }
is_operator B.And = record { above = omega arith; below = omega arith; stands = refl; no_choice = refl; no_index = refl }
is_operator B.Equal = record { above = omega arith; below = omega arith; stands = refl; no_choice = refl; no_index = refl }
is_operator B.NotEqual = record { above = omega arith; below = omega arith; stands = refl; no_choice = refl; no_index = refl }
is_operator B.Less = record { above = omega arith; below = omega arith; stands = refl; no_choice = refl; no_index = refl }
is_operator B.Greater = record { above = omega arith; below = omega arith; stands = refl; no_choice = refl; no_index = refl }
is_operator B.LessEqual = record { above = omega arith; below = omega arith; stands = refl; no_choice = refl; no_index = refl }
is_operator B.GreaterEqual = record { above = omega arith; below = omega arith; stands = refl; no_choice = refl; no_index = refl }
is_operator B.ShiftLeft = record { above = omega arith; below = omega arith; stands = refl; no_choice = refl; no_index = refl }
is_operator B.ShiftRight = record { above = omega arith; below = omega arith; stands = refl; no_choice = refl; no_index = refl }
is_operator B.Add = record { above = omega arith; below = omega arith; stands = refl; no_choice = refl; no_index = refl }
is_operator B.Subtract = record { above = omega arith; below = omega arith; stands = refl; no_choice = refl; no_index = refl }
is_operator B.Multiply = record { above = omega arith; below = omega arith; stands = refl; no_choice = refl; no_index = refl }
is_operator B.Divide = record { above = omega arith; below = omega arith; stands = refl; no_choice = refl; no_index = refl }
is_operator B.Remainder = record { above = omega arith; below = omega arith; stands = refl; no_choice = refl; no_index = refl }

-- ---- how an expression goes on

-- by whether the next token is `?`, and which operator it stands for
abbrev next_by : Bool → ℕ → Option BinaryOperator → Next
next_by choice level found = cond choice (cond (eqb level 0) Choice Stop) (taken_at level found)

suc-no_zero : (n : ℕ) → eqb (suc n) 0 ≡ false
suc-no_zero n = ne_eqb (suc n) 0 (λ e. omega arith)

no_operator : (level : ℕ) (o : BinaryOperator) → cond (eqb level 0) Choice Stop ≡ Operator o → ⊥
no_operator zero o e = absurd cc
no_operator (suc level) o e = absurd (let f = rw suc-no_zero at e in cc)

taken_is : (level : ℕ) (found : Option BinaryOperator) (o : BinaryOperator) → taken_at level found ≡ Operator o → (found ≡ Some o) × (level ≤ binding o)
taken_is level None o e = absurd cc
taken_is level (Some p) o e =
    elim (which (leb level (binding p)) (Operator p) Stop (Operator o) e) [
      | inl holds ↦
          let same : p ≡ o = (let f = holds.1 in cc) in
          (ap (λ x. Some x) same, let le = leb-true level (binding p) holds.0 in let eq = ap binding same in omega arith)
      | inr fails ↦ absurd (let f = fails.1 in cc)
    ]

not_taken : (level : ℕ) (o : BinaryOperator) → taken_at level (Some o) ≡ Stop → binding o < level
not_taken level o e =
    elim (which (leb level (binding o)) (Operator o) Stop Stop e) [
      | inl holds ↦ absurd (let f = holds.1 in cc)
      | inr fails ↦ leb-false level (binding o) fails.0
    ]

operator_between : (choice : Bool) (level m : ℕ) (found : Option BinaryOperator) (o : BinaryOperator) → next_by choice level found ≡ Operator o → next_by choice m found ≡ Stop → (level ≤ binding o) × (binding o < m)
operator_between true level m found o e stop = absurd (no_operator level o e)
operator_between false level m found o e stop =
    let t = taken_is level found o e in
    (t.1, not_taken m o (ap (taken_at m) (sym t.0) ∙ stop))

-- an operator that is taken at one level and not at another lies between them
pub next-between : (level m : ℕ) (ts : List Token) (o : BinaryOperator) → next level ts ≡ Operator o → Stops m ts → (level ≤ binding o) × (binding o < m)
unfolding next
next-between level m [] o e stop = absurd cc
next-between level m (t ∷ ts) o e stop = operator_between (is_sign P.Question t.kind) level m (binary_at t.kind) o e stop

choice_by : (choice : Bool) (level : ℕ) (found : Option BinaryOperator) → next_by choice level found ≡ Choice → level ≡ 0
choice_by true zero found e = refl
choice_by true (suc level) found e = absurd (let f = rw suc-no_zero at e in cc)
choice_by false level None e = absurd cc
choice_by false level (Some o) e =
    elim (which (leb level (binding o)) (Operator o) Stop Choice e) [
      | inl holds ↦ absurd (let f = holds.1 in cc)
      | inr fails ↦ absurd (let f = fails.1 in cc)
    ]

-- only a whole expression goes on with `?`
pub choice_level : (level : ℕ) (ts : List Token) → next level ts ≡ Choice → level ≡ 0
unfolding next
choice_level level [] e = absurd cc
choice_level level (t ∷ ts) e = choice_by (is_sign P.Question t.kind) level (binary_at t.kind) e

choice_above : (level more : ℕ) → level ≤ more → cond (eqb level 0) Choice Stop ≡ Stop → cond (eqb more 0) Choice Stop ≡ Stop
choice_above zero more le e = absurd cc
choice_above (suc level) zero le e = absurd (omega arith)
choice_above (suc level) (suc more) le e = rw (suc-no_zero more) refl

stops_by : (choice : Bool) (level more : ℕ) (found : Option BinaryOperator) → level ≤ more → next_by choice level found ≡ Stop → next_by choice more found ≡ Stop
stops_by true level more found le e = choice_above level more le e
stops_by false level more None le e = refl
stops_by false level more (Some o) le e = let lt = not_taken level o e in rw (lt-leb more (binding o) (omega arith)) refl

-- what stops at one level stops at each higher one
pub stops_above : (level more : ℕ) (ts : List Token) → level ≤ more → Stops level ts → Stops more ts
unfolding next
stops_above level more [] le e = refl
stops_above level more (t ∷ ts) le e = stops_by (is_sign P.Question t.kind) level more (binary_at t.kind) le e

pub ends_above : (level more : ℕ) (ts : List Token) → level ≤ more → Ends level ts → Ends more ts
ends_above level more ts le e = record { stops = stops_above level more ts le e.stops; no_index = e.no_index }

none_above : (choice : Bool) (found : Option BinaryOperator) → next_by choice 11 found ≡ Stop
none_above true found = refl
none_above false None = refl
none_above false (Some o) = let lt = (is_operator o).below in rw (lt-leb 11 (binding o) (omega arith)) refl

-- no operator binds as strongly as an operand does
pub stops_operand : (more : ℕ) (ts : List Token) → 11 ≤ more → Stops more ts
unfolding next
stops_operand more [] le = refl
stops_operand more (t ∷ ts) le = stops_by (is_sign P.Question t.kind) 11 more (binary_at t.kind) le (none_above (is_sign P.Question t.kind) (binary_at t.kind))

-- ---- what stands behind an expression

-- a sign that is no operator, no `?` and no `[`
pub ends_behind : (p : Punctuator) → binary_of p ≡ None → is_sign P.Question (T.Punctuator p) ≡ false → is_sign P.LeftBracket (T.Punctuator p) ≡ false → (level : ℕ) (xs rest : List Token) → Sign p xs → Ends level (xs ++ rest)
unfolding next
ends_behind p none no_choice no_index level xs rest s = record {
  stops = rw (s.2, s.1, no_choice, none) refl;
  no_index = rw (s.2, s.1, no_index) refl;
}

pub ends_nothing : (level : ℕ) → Ends level []
unfolding next
ends_nothing level = record { stops = refl; no_index = refl }

-- `?` behind what is no whole expression
pub ends_choice : (level : ℕ) (xs rest : List Token) → Sign P.Question xs → Ends (suc level) (xs ++ rest)
unfolding next
ends_choice level xs rest s = record { stops = rw (s.2, s.1, suc-no_zero level) refl; no_index = rw (s.2, s.1) refl }

pub next_choice : (xs rest : List Token) → Sign P.Question xs → next 0 (xs ++ rest) ≡ Choice
unfolding next
next_choice xs rest s = rw (s.2, s.1) refl

-- an operator behind what binds at least as strongly
pub ends_operator : (o : BinaryOperator) (xs rest : List Token) → Sign (binary_sign o) xs → Ends (suc (binding o)) (xs ++ rest)
unfolding next
ends_operator o xs rest s =
    let is = is_operator o in
    record {
      stops = rw (s.2, s.1, is.no_choice, is.stands, lt-leb (suc (binding o)) (binding o) (omega arith)) refl;
      no_index = rw (s.2, s.1, is.no_index) refl;
    }

pub next_operator : (level : ℕ) (o : BinaryOperator) (xs rest : List Token) → level ≤ binding o → Sign (binary_sign o) xs → next level (xs ++ rest) ≡ Operator o
unfolding next
next_operator level o xs rest le s =
    let is = is_operator o in
    rw (s.2, s.1, is.no_choice, is.stands, le-leb level (binding o) le) refl

-- ---- heights and levels

pub height-positive : (t : ExpressionTree) → 1 ≤ expression_height t
height-positive (E.Number c) = omega arith
height-positive (E.Variable x) = omega arith
height-positive (E.Element a e) = omega arith
height-positive (E.Parenthesis e) = omega arith
height-positive (E.Cast t e) = omega arith
height-positive (E.Unary o e) = omega arith
height-positive (E.Binary o a b) = omega arith
height-positive (E.Conditional c a b) = omega arith

-- what is spelled at a level is so at each lower one, but for whole expressions alone
pub lower_level : (level m : ℕ) (t : ExpressionTree) (xs : List Token) → level ≤ m → 1 ≤ m → IsExpressionAt m t xs → IsExpressionAt level t xs
lower_level level m (E.Number c) xs le one s = s
lower_level level m (E.Variable x) xs le one s = s
lower_level level m (E.Element a e) xs le one s = s
lower_level level m (E.Parenthesis e) xs le one s = s
lower_level level m (E.Cast t e) xs le one s = s
lower_level level m (E.Unary o e) xs le one s = s
lower_level level m (E.Binary o a b) xs le one s = (let at = s.0 in omega arith, s.1)
lower_level level m (E.Conditional c a b) xs le one s = absurd (let at = s.0 in omega arith)
