-- The expression of Cminor that a term of C stands for (C99 6.5; Leroy 2009, section 3.1): of `&&`, `||` and `?:` only what is
-- needed is evaluated. A local is the variable of its number.
use Rattle.c_program.specs.Trees.{TermTree}
use Rattle.c_program.specs.Trees as C
use Rattle.cminor_syntax.specs.Trees.{ExpressionTree, Number, Variable, Load, Unary, Binary, Choice}

-- 1 for a word that is not 0
abbrev pub truth_of : ExpressionTree → ExpressionTree
truth_of e = Choice e (Number 1) (Number 0)

abbrev pub low_term : TermTree → ExpressionTree
low_term (C.Constant w) = Number w
low_term (C.Local n) = Variable n
low_term (C.Cell g i) = Load g (low_term i)
low_term (C.Unary o a) = Unary o (low_term a)
low_term (C.Binary o a b) = Binary o (low_term a) (low_term b)
low_term (C.Both a b) = Choice (low_term a) (truth_of (low_term b)) (Number 0)
low_term (C.Either a b) = Choice (low_term a) (Number 1) (truth_of (low_term b))
low_term (C.Conditional c a b) = Choice (low_term c) (low_term a) (low_term b)
