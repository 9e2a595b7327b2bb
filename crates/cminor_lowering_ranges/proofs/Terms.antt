-- The expression that a term is lowered to is in range: one variable more than the locals is there.
use Rattle.std.proofs.Common.{◌≡◌, ℕ, suc, List, [], ◌∷◌, map, Option, Some, None, refl, arith}
use Rattle.std.specs.List.{AllByRecursion}
use Rattle.ints.specs.declared.operators.Op.{Op}
use Rattle.ints.specs.declared.operators.Op.TheVariants as O
use Rattle.ints.specs.Codes.{argument_count_of}
use Rattle.c_syntax.specs.declared.constant.IntegerType.{IntegerType}
use Rattle.c_syntax.specs.declared.constant.IntegerType.TheVariants.{Int, Unsigned}
use Rattle.c_syntax.specs.declared.expression.UnaryOperator.{UnaryOperator}
use Rattle.c_syntax.specs.declared.expression.UnaryOperator.TheVariants as U
use Rattle.c_syntax.specs.declared.expression.BinaryOperator.{BinaryOperator}
use Rattle.c_syntax.specs.declared.expression.BinaryOperator.TheVariants as B
use Rattle.c_syntax.specs.declared.expression.AssignOperator.{AssignOperator}
use Rattle.c_syntax.specs.declared.expression.AssignOperator.TheVariants as A
use Rattle.c_syntax.specs.Trees.{ExpressionTree}
use Rattle.c_syntax.specs.Trees as T
use Rattle.c_program.specs.Trees.{TermTree}
use Rattle.c_checker_rules.specs.declared.meaning.Meaning.{Meaning}
use Rattle.c_checker_rules.specs.declared.meaning.Meaning.TheVariants as M
use Rattle.c_checker_rules.specs.Names.{Scope, meaning_of}
use Rattle.c_checker_rules.specs.Types.{type_of, common}
use Rattle.c_checker_rules.specs.Terms.{variable_term, by_type, unary_term, binary_term, change_operator, term_of}
use Rattle.cminor_syntax.specs.Fits.{ExpressionFits}
use Rattle.cminor_lowering.specs.Terms.{low_term}
use Rattle.cminor_lowering.specs.Held.{HasWords}
use Rattle.cminor_lowering_ranges.proofs.Scopes.{ScopeFits, MeantFits, meant_fits, array_fits}

-- among so many locals
abbrev pub TermFits : ℕ → TermTree → Type 0
TermFits n t = ExpressionFits (suc n) (low_term t)

pub variable_fits : (n : ℕ) (m : Option Meaning) → MeantFits n m → TermFits n (variable_term m)
variable_fits n None fits = omega arith
variable_fits n (Some (M.Local k t)) fits = omega arith
variable_fits n (Some (M.Variable k t)) fits = (fits, omega arith)
variable_fits n (Some (M.Array k t)) fits = omega arith
variable_fits n (Some (M.Function k)) fits = omega arith

either_count : (t : IntegerType) (s u : Op) (k : ℕ) → argument_count_of s ≡ k → argument_count_of u ≡ k → argument_count_of (by_type t s u) ≡ k
either_count Int s u k signed unsigned = signed
either_count Unsigned s u k signed unsigned = unsigned

pub two_arguments : (o : AssignOperator) (s t : IntegerType) → argument_count_of (change_operator o s t) ≡ 2
unfolding argument_count_of
two_arguments A.Multiply s t = either_count (common s t) O.MulS O.MulU 2 refl refl
two_arguments A.Divide s t = either_count (common s t) O.DivS O.DivU 2 refl refl
two_arguments A.Remainder s t = either_count (common s t) O.ModS O.ModU 2 refl refl
two_arguments A.Add s t = either_count (common s t) O.AddS O.AddU 2 refl refl
two_arguments A.Subtract s t = either_count (common s t) O.SubS O.SubU 2 refl refl
two_arguments A.ShiftLeft s t = either_count s O.ShlS O.ShlU 2 refl refl
two_arguments A.ShiftRight s t = either_count s O.ShrS O.ShrU 2 refl refl
two_arguments A.And s t = refl
two_arguments A.Xor s t = refl
two_arguments A.Or s t = refl

unary_fits : (n : ℕ) (o : UnaryOperator) (t : IntegerType) (e : TermTree) → (HasWords e → TermFits n e) → HasWords (unary_term o t e) → TermFits n (unary_term o t e)
unfolding argument_count_of
unary_fits n U.Minus t e fits words = (either_count t O.NegS O.NegU 1 refl refl, fits words)
unary_fits n U.Plus t e fits words = fits words
unary_fits n U.Complement t e fits words = (refl, fits words)
unary_fits n U.Not t e fits words = (refl, fits words)

module _ (n : ℕ) (s t : IntegerType) (a b : TermTree) (left : HasWords a → TermFits n a) (right : HasWords b → TermFits n b) where
  pub binary_fits : (o : BinaryOperator) → HasWords (binary_term o s t a b) → TermFits n (binary_term o s t a b)
  unfolding argument_count_of
  binary_fits B.LogicalOr words = (left words.0, (omega arith, (right words.1, (omega arith, omega arith))))
  binary_fits B.LogicalAnd words = (left words.0, ((right words.1, (omega arith, omega arith)), omega arith))
  binary_fits B.Or words = (refl, (left words.0, right words.1))
  binary_fits B.Xor words = (refl, (left words.0, right words.1))
  binary_fits B.And words = (refl, (left words.0, right words.1))
  binary_fits B.Equal words = (refl, (left words.0, right words.1))
  binary_fits B.NotEqual words = (refl, (left words.0, right words.1))
  binary_fits B.Less words = (either_count (common s t) O.LtS O.LtU 2 refl refl, (left words.0, right words.1))
  binary_fits B.Greater words = (either_count (common s t) O.LtS O.LtU 2 refl refl, (right words.0, left words.1))
  binary_fits B.LessEqual words = (either_count (common s t) O.LeS O.LeU 2 refl refl, (left words.0, right words.1))
  binary_fits B.GreaterEqual words = (either_count (common s t) O.LeS O.LeU 2 refl refl, (right words.0, left words.1))
  binary_fits B.ShiftLeft words = (either_count s O.ShlS O.ShlU 2 refl refl, (left words.0, right words.1))
  binary_fits B.ShiftRight words = (either_count s O.ShrS O.ShrU 2 refl refl, (left words.0, right words.1))
  binary_fits B.Add words = (either_count (common s t) O.AddS O.AddU 2 refl refl, (left words.0, right words.1))
  binary_fits B.Subtract words = (either_count (common s t) O.SubS O.SubU 2 refl refl, (left words.0, right words.1))
  binary_fits B.Multiply words = (either_count (common s t) O.MulS O.MulU 2 refl refl, (left words.0, right words.1))
  binary_fits B.Divide words = (either_count (common s t) O.DivS O.DivU 2 refl refl, (left words.0, right words.1))
  binary_fits B.Remainder words = (either_count (common s t) O.ModS O.ModU 2 refl refl, (left words.0, right words.1))

pub term_fits : (n : ℕ) (scope : Scope) (e : ExpressionTree) → ScopeFits n scope → HasWords (term_of scope e) → TermFits n (term_of scope e)
term_fits n scope (T.Number c) fits words = words
term_fits n scope (T.Variable x) fits words = variable_fits n (meaning_of scope x) (meant_fits n scope x fits)
term_fits n scope (T.Element a e) fits words = (array_fits n (meaning_of scope a) (meant_fits n scope a fits), term_fits n scope e fits words)
term_fits n scope (T.Parenthesis e) fits words = term_fits n scope e fits words
term_fits n scope (T.Cast t e) fits words = term_fits n scope e fits words
term_fits n scope (T.Unary o e) fits words = unary_fits n o (type_of scope e) (term_of scope e) (term_fits n scope e fits) words
term_fits n scope (T.Binary o a b) fits words =
    binary_fits n (type_of scope a) (type_of scope b) (term_of scope a) (term_of scope b) (term_fits n scope a fits) (term_fits n scope b fits) o words
term_fits n scope (T.Conditional c a b) fits words = (term_fits n scope c fits words.0, (term_fits n scope a fits words.1.0, term_fits n scope b fits words.1.1))

pub terms_fit : (n : ℕ) (scope : Scope) (es : List ExpressionTree) → ScopeFits n scope → AllByRecursion HasWords (map (term_of scope) es) →
    AllByRecursion (ExpressionFits (suc n)) (map low_term (map (term_of scope) es))
terms_fit n scope [] fits words = tt
terms_fit n scope (e ∷ es) fits words = (term_fits n scope e fits words.0, terms_fit n scope es fits words.1)
