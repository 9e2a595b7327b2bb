-- How operands are read (C99 6.5.1 to 6.5.4), over a reading of expressions that are one lower.
use Rattle.std.specs.Prelude.{ℕ, [], ◌∷◌, Option, Some, None, Ok, if◌then◌else◌}
use Rattle.c_syntax.specs.declared.punctuator.Punctuator.TheVariants as P
use Rattle.c_syntax.specs.declared.token.TokenKind.{TokenKind}
use Rattle.c_syntax.specs.declared.token.TokenKind.TheVariants as T
use Rattle.c_syntax.specs.declared.identifier.Identifier.{Identifier}
use Rattle.c_syntax.specs.declared.expression.UnaryOperator.{UnaryOperator}
use Rattle.c_syntax.specs.Trees.{ExpressionTree, Number, Variable, Element, Parenthesis, Cast, Unary}
use Rattle.c_syntax.specs.Signs.{unary_sign, operand_level}
use Rattle.c_reader_tokens.specs.Reading.{Reading, ◌>>=◌, misfit}
use Rattle.c_reader_tokens.specs.Peeking.{is_sign, is_sign_next, is_type_next}
use Rattle.c_reader_tokens.specs.Tokens.{sign, placed_name, constant, integer_type}
use Rattle.c_reader_expression_laws.specs.Operators.{unary_of}

-- a reading of expressions at each level of the grammar
abbrev pub Levels : Type 0
Levels = ℕ → Reading ExpressionTree

-- a constant
unfoldable pub number : Reading ExpressionTree
number ts = do
  c ← constant ts
  Ok (Number c.0, c.1)

-- behind a name: the index of its cell
unfoldable pub indexed : Levels → Identifier → Reading ExpressionTree
indexed below a ts = do
  inner ← sign P.LeftBracket ts
  e ← below 0 inner
  rest ← sign P.RightBracket e.1
  Ok (Element a e.0, rest)

-- a name, or a cell where `[` is next
unfoldable pub variable : Levels → Reading ExpressionTree
variable below ts = do
  x ← placed_name ts
  if is_sign_next P.LeftBracket x.1 then indexed below x.0 x.1 else Ok (Variable x.0, x.1)

-- behind `(`: the rest of a cast
unfoldable pub cast : Levels → Reading ExpressionTree
cast below ts = do
  t ← integer_type ts
  rest ← sign P.RightParenthesis t.1
  e ← below operand_level rest
  Ok (Cast t.0 e.0, e.1)

-- behind `(`: an expression and `)`
unfoldable pub enclosed : Levels → Reading ExpressionTree
enclosed below ts = do
  e ← below 0 ts
  rest ← sign P.RightParenthesis e.1
  Ok (Parenthesis e.0, rest)

unfoldable pub parenthesized : Levels → Reading ExpressionTree
parenthesized below ts = do
  inner ← sign P.LeftParenthesis ts
  if is_type_next inner then cast below inner else enclosed below inner

-- a unary operator and its operand
unfoldable pub signed : Levels → UnaryOperator → Reading ExpressionTree
signed below o ts = do
  inner ← sign (unary_sign o) ts
  e ← below operand_level inner
  Ok (Unary o e.0, e.1)

abbrev pub perhaps_signed : Levels → Option UnaryOperator → Reading ExpressionTree
perhaps_signed below None ts = misfit ts
perhaps_signed below (Some o) ts = signed below o ts

-- an operand, by its first token
abbrev pub operand_at : Levels → TokenKind → Reading ExpressionTree
operand_at below (T.Name x) ts = variable below ts
operand_at below (T.Constant c) ts = number ts
operand_at below (T.Keyword k) ts = misfit ts
operand_at below (T.Punctuator p) ts = if is_sign P.LeftParenthesis (T.Punctuator p) then parenthesized below ts else perhaps_signed below (unary_of p) ts

unfoldable pub operand : Levels → Reading ExpressionTree
operand below [] = misfit []
operand below (t ∷ ts) = operand_at below t.kind (t ∷ ts)
