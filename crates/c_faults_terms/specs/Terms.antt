-- The places of the parts of a term, by the expression that it stands for and the tokens that spell it: an operator's place is
-- that of its sign, a variable's that of its name, and a constant's its own.
use Rattle.std.specs.Prelude.{ℕ, List, [], ◌∷◌, ◌++◌, Bool, true, false, if◌then◌else◌}
use Rattle.c_syntax.specs.declared.expression.UnaryOperator.{UnaryOperator}
use Rattle.c_syntax.specs.declared.expression.UnaryOperator.TheVariants as U
use Rattle.c_syntax.specs.declared.expression.BinaryOperator.{BinaryOperator}
use Rattle.c_syntax.specs.declared.expression.BinaryOperator.TheVariants as B
use Rattle.c_syntax.specs.declared.token.Token.{Token}
use Rattle.c_syntax.specs.Trees.{ExpressionTree}
use Rattle.c_syntax.specs.Trees as T
use Rattle.c_program.specs.Trees.{TermTree}
use Rattle.c_program.specs.Trees as P
use Rattle.c_faults_tokens.specs.Tokens.{next, start, behind_type, behind_expression}

-- one place for each part of a term
abbrev pub same : ℕ → TermTree → List ℕ
same p (P.Constant w) = p ∷ []
same p (P.Local n) = p ∷ []
same p (P.Cell g i) = p ∷ same p i
same p (P.Unary o a) = p ∷ same p a
same p (P.Binary o a b) = p ∷ same p a ++ same p b
same p (P.Both a b) = p ∷ same p a ++ same p b
same p (P.Either a b) = p ∷ same p a ++ same p b
same p (P.Conditional c a b) = p ∷ same p c ++ same p a ++ same p b

-- the parts of a term, the term itself where it has none
abbrev pub part : TermTree → TermTree
part (P.Cell g i) = i
part (P.Unary o a) = a
part t = t

abbrev pub first : TermTree → TermTree
first (P.Binary o a b) = a
first (P.Both a b) = a
first (P.Either a b) = a
first (P.Conditional c a b) = c
first t = t

abbrev pub second : TermTree → TermTree
second (P.Binary o a b) = b
second (P.Both a b) = b
second (P.Either a b) = b
second (P.Conditional c a b) = a
second t = t

abbrev pub third : TermTree → TermTree
third (P.Conditional c a b) = b
third t = t

-- `a > b` is `b < a`, and `a >= b` is `b <= a`
abbrev pub is_turned : BinaryOperator → Bool
is_turned B.Greater = true
is_turned B.GreaterEqual = true
is_turned o = false

-- unary `+` leaves no part of its own
abbrev pub signed : UnaryOperator → ℕ → (whole parts : List ℕ) → List ℕ
signed U.Plus p whole parts = whole
signed U.Minus p whole parts = p ∷ parts
signed U.Complement p whole parts = p ∷ parts
signed U.Not p whole parts = p ∷ parts

abbrev pub term_places : ExpressionTree → TermTree → List Token → List ℕ
term_places (T.Number c) t ts = same (start ts) t
term_places (T.Variable x) t ts = same (start ts) t
term_places (T.Element a e) t ts = start ts ∷ term_places e (part t) (next (next ts))
term_places (T.Parenthesis e) t ts = term_places e t (next ts)
term_places (T.Cast k e) t ts = term_places e t (next (behind_type k (next ts)))
term_places (T.Unary o e) t ts = signed o (start ts) (term_places e t (next ts)) (term_places e (part t) (next ts))
term_places (T.Binary o a b) t ts =
    let sign = behind_expression a ts in
    start sign ∷
    (if is_turned o then term_places b (first t) (next sign) ++ term_places a (second t) ts
    else term_places a (first t) ts ++ term_places b (second t) (next sign))
term_places (T.Conditional c a b) t ts =
    let question = behind_expression c ts in
    let colon = behind_expression a (next question) in
    start question ∷ term_places c (first t) ts ++ term_places a (second t) (next question) ++ term_places b (third t) (next colon)
