-- Which tokens stand behind those of a tree, by the grammar: each tree takes as many as spell it.
use Rattle.std.specs.Prelude.{ℕ, List, [], ◌∷◌, Option, Some, None, Bool, true, false, if◌then◌else◌}
use Rattle.c_syntax.specs.declared.constant.IntegerType.{IntegerType}
use Rattle.c_syntax.specs.declared.constant.IntegerType.TheVariants.{Int, Unsigned}
use Rattle.c_syntax.specs.declared.keyword.Keyword.TheVariants as K
use Rattle.c_syntax.specs.declared.punctuator.Punctuator.TheVariants.{Increment, Decrement}
use Rattle.c_syntax.specs.declared.token.Token.{Token}
use Rattle.c_syntax.specs.declared.token.TokenKind.{TokenKind}
use Rattle.c_syntax.specs.declared.token.TokenKind.TheVariants as V
use Rattle.c_syntax.specs.Trees.{ExpressionTree, CallTree, ValueTree, LvalueTree, ChangeTree, SetTree, LocalTree, StartTree, StatementTree, StatementsTree}
use Rattle.c_syntax.specs.Trees as T

-- the tokens behind the first
abbrev pub next : List Token → List Token
next [] = []
next (t ∷ ts) = ts

-- where the first token begins: 0 where there is none
abbrev pub start : List Token → ℕ
start [] = 0
start (t ∷ ts) = t.start

abbrev pub is_int : TokenKind → Bool
is_int (V.Keyword K.Int) = true
is_int kind = false

-- without a word `int` in front
abbrev pub without_int : List Token → List Token
without_int [] = []
without_int (t ∷ ts) = if is_int t.kind then ts else t ∷ ts

-- `unsigned` may be written `unsigned int`
abbrev pub behind_type : IntegerType → List Token → List Token
behind_type Int ts = next ts
behind_type Unsigned ts = without_int (next ts)

abbrev pub behind_expression : ExpressionTree → List Token → List Token
behind_expression (T.Number c) ts = next ts
behind_expression (T.Variable x) ts = next ts
behind_expression (T.Element a e) ts = next (behind_expression e (next (next ts)))
behind_expression (T.Parenthesis e) ts = next (behind_expression e (next ts))
behind_expression (T.Cast k e) ts = behind_expression e (next (behind_type k (next ts)))
behind_expression (T.Unary o e) ts = behind_expression e (next ts)
behind_expression (T.Binary o a b) ts = behind_expression b (next (behind_expression a ts))
behind_expression (T.Conditional c a b) ts = behind_expression b (next (behind_expression a (next (behind_expression c ts))))

-- expressions, each behind a comma
abbrev pub behind_more : List ExpressionTree → List Token → List Token
behind_more [] ts = ts
behind_more (e ∷ es) ts = behind_more es (behind_expression e (next ts))

-- expressions with a comma between each two
abbrev pub behind_commas : List ExpressionTree → List Token → List Token
behind_commas [] ts = ts
behind_commas (e ∷ es) ts = behind_more es (behind_expression e ts)

abbrev pub behind_call : CallTree → List Token → List Token
behind_call c ts = next (behind_commas c.arguments (next (next ts)))

abbrev pub behind_value : ValueTree → List Token → List Token
behind_value (T.Plain e) ts = behind_expression e ts
behind_value (T.Called c) ts = behind_call c ts

abbrev pub behind_lvalue : LvalueTree → List Token → List Token
behind_lvalue (T.Name x) ts = next ts
behind_lvalue (T.Cell a e) ts = next (behind_expression e (next (next ts)))

-- `++` or `--`
abbrev pub is_step_sign : TokenKind → Bool
is_step_sign (V.Punctuator Increment) = true
is_step_sign (V.Punctuator Decrement) = true
is_step_sign kind = false

abbrev pub begins_with_step : List Token → Bool
begins_with_step [] = false
begins_with_step (t ∷ ts) = is_step_sign t.kind

-- A change: `++t` and `--t`, `t++` and `t--`, and else a sign between the lvalue and a value.
abbrev pub behind_change : ChangeTree → List Token → List Token
behind_change c ts =
    if begins_with_step ts then behind_lvalue c.lvalue (next ts)
    else if begins_with_step (behind_lvalue c.lvalue ts) then next (behind_lvalue c.lvalue ts)
    else behind_expression c.value (next (behind_lvalue c.lvalue ts))

-- where a change's lvalue begins, its sign stands, and its value begins
abbrev pub lvalue_tokens : List Token → List Token
lvalue_tokens ts = if begins_with_step ts then next ts else ts

abbrev pub sign_tokens : LvalueTree → List Token → List Token
sign_tokens l ts = if begins_with_step ts then ts else behind_lvalue l ts

abbrev pub behind_set : SetTree → List Token → List Token
behind_set (T.Becomes l e) ts = behind_expression e (next (behind_lvalue l ts))
behind_set (T.Changes c) ts = behind_change c ts

-- parts that may be missing
abbrev pub behind_condition : Option ExpressionTree → List Token → List Token
behind_condition None ts = ts
behind_condition (Some e) ts = behind_expression e ts

abbrev pub behind_step : Option SetTree → List Token → List Token
behind_step None ts = ts
behind_step (Some s) ts = behind_set s ts

abbrev pub behind_returned : Option ValueTree → List Token → List Token
behind_returned None ts = ts
behind_returned (Some v) ts = behind_value v ts

-- the value of a local stands behind `=`
abbrev pub behind_beginning : Option ValueTree → List Token → List Token
behind_beginning None ts = ts
behind_beginning (Some v) ts = behind_value v (next ts)

abbrev pub behind_local : LocalTree → List Token → List Token
behind_local l ts = next (behind_beginning l.value (next (behind_type l.kind ts)))

-- how a `for` begins, with its semicolon
abbrev pub behind_start : StartTree → List Token → List Token
behind_start T.StartNothing ts = next ts
behind_start (T.StartSet s) ts = next (behind_set s ts)
behind_start (T.StartLocal k x e) ts = next (behind_expression e (next (next (behind_type k ts))))

-- an expression in parentheses behind a word, with its closing one
abbrev pub behind_head : ExpressionTree → List Token → List Token
behind_head e ts = next (behind_expression e (next (next ts)))

abbrev mutual
  pub behind_statement : StatementTree → List Token → List Token
  behind_statement T.Empty ts = next ts
  behind_statement (T.Local l) ts = behind_local l ts
  behind_statement (T.Block s) ts = next (behind_statements s (next ts))
  behind_statement (T.Call c) ts = next (behind_call c ts)
  behind_statement (T.Assign x v) ts = next (behind_value v (next (next ts)))
  behind_statement (T.Store a i e) ts = next (behind_expression e (next (next (behind_expression i (next (next ts))))))
  behind_statement (T.Change c) ts = next (behind_change c ts)
  behind_statement (T.If e s) ts = behind_statement s (behind_head e ts)
  behind_statement (T.IfElse e s t) ts = behind_statement t (next (behind_statement s (behind_head e ts)))
  behind_statement (T.While e s) ts = behind_statement s (behind_head e ts)
  behind_statement (T.Do s e) ts = next (behind_head e (behind_statement s (next ts)))
  behind_statement (T.For head e step s) ts =
      behind_statement s (next (behind_step step (next (behind_condition e (behind_start head (next (next ts)))))))
  behind_statement (T.Break at) ts = next (next ts)
  behind_statement (T.Continue at) ts = next (next ts)
  behind_statement (T.Return at v) ts = next (behind_returned v (next ts))

  pub behind_statements : StatementsTree → List Token → List Token
  behind_statements T.Done ts = ts
  behind_statements (T.First s rest) ts = behind_statements rest (behind_statement s ts)
