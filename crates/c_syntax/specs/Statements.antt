-- Which tokens spell a statement (C99 6.8):
--   block = "{" { local | stmt } "}"
--   local = type name [ "=" ( expr | call ) ] ";"
--   call  = name "(" [ expr { "," expr } ] ")"
--   stmt  = block | ";" | call ";" | name "=" ( expr | call ) ";" | name "[" expr "]" "=" expr ";" | change ";"
--         | "if" "(" expr ")" stmt [ "else" stmt ] | "while" "(" expr ")" stmt | "do" stmt "while" "(" expr ")" ";"
--         | "for" "(" ( ";" | set ";" | type name "=" expr ";" ) [ expr ] ";" [ set ] ")" stmt
--         | "break" ";" | "continue" ";" | "return" [ expr | call ] ";"
--   set   = t "=" expr | change
--   change = t aop expr | t "++" | t "--" | "++" t | "--" t
--   t     = name | name "[" expr "]"
--   aop   = "*=" | "/=" | "%=" | "+=" | "-=" | "<<=" | ">>=" | "&=" | "^=" | "|="
use Rattle.std.specs.Prelude.{◌≡◌, Bool, true, false, IsTrue, List, Option, Some, None, ◌⊎◌}
use Rattle.c_syntax.specs.declared.keyword.Keyword.TheVariants as K
use Rattle.c_syntax.specs.declared.punctuator.Punctuator.TheVariants.{LeftParenthesis, RightParenthesis, LeftBracket, RightBracket, LeftBrace, RightBrace, Semicolon, Assign, Increment, Decrement}
use Rattle.c_syntax.specs.declared.token.Token.{Token}
use Rattle.c_syntax.specs.declared.token.TokenKind.TheVariants.{Keyword}
use Rattle.c_syntax.specs.Trees.{CallTree, ValueTree, ExpressionTree, LvalueTree, ChangeTree, SetTree, LocalTree, StartTree, StatementTree, StatementsTree}
use Rattle.c_syntax.specs.Trees as T
use Rattle.c_syntax.specs.declared.constant.IntegerType.TheVariants.{Int}
use Rattle.c_syntax.specs.declared.expression.AssignOperator.{AssignOperator}
use Rattle.c_syntax.specs.declared.expression.AssignOperator.TheVariants as A
use Rattle.c_syntax.specs.Signs.{assign_sign}
use Rattle.c_syntax.specs.Parts.{OneAt, Sign, Word, IsName, IsType, ◌⨾◌, Nothing, Perhaps, Commas}
use Rattle.c_syntax.specs.Expressions.{IsExpression}

abbrev pub IsCall : CallTree → List Token → Type 0
IsCall c = IsName c.callee ⨾ Sign LeftParenthesis ⨾ Commas IsExpression c.arguments ⨾ Sign RightParenthesis

abbrev pub IsValue : ValueTree → List Token → Type 0
IsValue (T.Plain e) = IsExpression e
IsValue (T.Called c) = IsCall c

abbrev pub IsLvalue : LvalueTree → List Token → Type 0
IsLvalue (T.Name x) = IsName x
IsLvalue (T.Cell a e) = IsName a ⨾ Sign LeftBracket ⨾ IsExpression e ⨾ Sign RightBracket

-- `++` adds 1 and `--` subtracts it (C99 6.5.2.4 and 6.5.3.1): the constant 1, an int
abbrev pub one : ExpressionTree
one = T.Number (record { value = 1; kind = Int })

abbrev pub IsStepSign : AssignOperator → List Token → Type 0
IsStepSign A.Multiply ts = ⊥
IsStepSign A.Divide ts = ⊥
IsStepSign A.Remainder ts = ⊥
IsStepSign A.Add ts = Sign Increment ts
IsStepSign A.Subtract ts = Sign Decrement ts
IsStepSign A.ShiftLeft ts = ⊥
IsStepSign A.ShiftRight ts = ⊥
IsStepSign A.And ts = ⊥
IsStepSign A.Xor ts = ⊥
IsStepSign A.Or ts = ⊥

-- an lvalue with `++` or `--` behind it or before it
abbrev pub IsStep : LvalueTree → AssignOperator → List Token → Type 0
IsStep l o ts = (IsLvalue l ⨾ IsStepSign o) ts ⊎ (IsStepSign o ⨾ IsLvalue l) ts

abbrev pub IsChange : ChangeTree → List Token → Type 0
IsChange c ts =
    (IsLvalue c.lvalue ⨾ Sign (assign_sign c.operator) ⨾ IsExpression c.value) ts
    ⊎ (c.value ≡ one) × IsStep c.lvalue c.operator ts

abbrev pub IsSet : SetTree → List Token → Type 0
IsSet (T.Becomes l e) ts = (IsLvalue l ⨾ Sign Assign ⨾ IsExpression e) ts
IsSet (T.Changes c) ts = IsChange c ts

abbrev pub IsLocalValue : Option ValueTree → List Token → Type 0
IsLocalValue None = Nothing
IsLocalValue (Some v) = Sign Assign ⨾ IsValue v

abbrev pub IsLocal : LocalTree → List Token → Type 0
IsLocal l = IsType l.kind ⨾ IsName l.name ⨾ IsLocalValue l.value ⨾ Sign Semicolon

abbrev pub IsStart : StartTree → List Token → Type 0
IsStart T.StartNothing = Sign Semicolon
IsStart (T.StartSet s) = IsSet s ⨾ Sign Semicolon
IsStart (T.StartLocal t x e) = IsType t ⨾ IsName x ⨾ Sign Assign ⨾ IsExpression e ⨾ Sign Semicolon

-- It ends in an `if` without `else`: an `else` behind it would belong to that `if`.
abbrev pub ends_open : StatementTree → Bool
ends_open T.Empty = false
ends_open (T.Local l) = false
ends_open (T.Block s) = false
ends_open (T.Call c) = false
ends_open (T.Assign x v) = false
ends_open (T.Store a i e) = false
ends_open (T.Change c) = false
ends_open (T.If e s) = true
ends_open (T.IfElse e s t) = ends_open t
ends_open (T.While e s) = ends_open s
ends_open (T.Do s e) = false
ends_open (T.For start e step s) = ends_open s
ends_open (T.Break at) = false
ends_open (T.Continue at) = false
ends_open (T.Return at v) = false

-- A declaration of a local stands in a block alone.
abbrev mutual
  pub IsStatementIn : (block : Bool) → StatementTree → List Token → Type 0
  IsStatementIn block T.Empty ts = Sign Semicolon ts
  IsStatementIn block (T.Local l) ts = IsTrue block × IsLocal l ts
  IsStatementIn block (T.Block s) ts = (Sign LeftBrace ⨾ AreStatements s ⨾ Sign RightBrace) ts
  IsStatementIn block (T.Call c) ts = (IsCall c ⨾ Sign Semicolon) ts
  IsStatementIn block (T.Assign x v) ts = (IsName x ⨾ Sign Assign ⨾ IsValue v ⨾ Sign Semicolon) ts
  IsStatementIn block (T.Store a i e) ts =
      (IsName a ⨾ Sign LeftBracket ⨾ IsExpression i ⨾ Sign RightBracket ⨾ Sign Assign ⨾ IsExpression e ⨾ Sign Semicolon) ts
  IsStatementIn block (T.Change c) ts = (IsChange c ⨾ Sign Semicolon) ts
  IsStatementIn block (T.If e s) ts =
      (Word K.If ⨾ Sign LeftParenthesis ⨾ IsExpression e ⨾ Sign RightParenthesis ⨾ IsStatementIn false s) ts
  IsStatementIn block (T.IfElse e s t) ts =
      (ends_open s ≡ false)
      × (Word K.If ⨾ Sign LeftParenthesis ⨾ IsExpression e ⨾ Sign RightParenthesis ⨾ IsStatementIn false s ⨾ Word K.Else ⨾ IsStatementIn false t) ts
  IsStatementIn block (T.While e s) ts =
      (Word K.While ⨾ Sign LeftParenthesis ⨾ IsExpression e ⨾ Sign RightParenthesis ⨾ IsStatementIn false s) ts
  IsStatementIn block (T.Do s e) ts =
      (Word K.Do ⨾ IsStatementIn false s ⨾ Word K.While ⨾ Sign LeftParenthesis ⨾ IsExpression e ⨾ Sign RightParenthesis ⨾ Sign Semicolon) ts
  IsStatementIn block (T.For start e step s) ts =
      (Word K.For ⨾ Sign LeftParenthesis ⨾ IsStart start ⨾ Perhaps IsExpression e ⨾ Sign Semicolon ⨾ Perhaps IsSet step
      ⨾ Sign RightParenthesis ⨾ IsStatementIn false s) ts
  IsStatementIn block (T.Break at) ts = (OneAt (Keyword K.Break) at ⨾ Sign Semicolon) ts
  IsStatementIn block (T.Continue at) ts = (OneAt (Keyword K.Continue) at ⨾ Sign Semicolon) ts
  IsStatementIn block (T.Return at v) ts = (OneAt (Keyword K.Return) at ⨾ Perhaps IsValue v ⨾ Sign Semicolon) ts

  pub AreStatements : StatementsTree → List Token → Type 0
  AreStatements T.Done ts = Nothing ts
  AreStatements (T.First s rest) ts = (IsStatementIn true s ⨾ AreStatements rest) ts
