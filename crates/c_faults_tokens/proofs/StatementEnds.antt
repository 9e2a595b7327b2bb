-- Where statements end.
use Rattle.std.proofs.Common.{Bool, true, false, Option, Some, None}
use Rattle.c_syntax.specs.declared.keyword.Keyword.TheVariants as K
use Rattle.c_syntax.specs.declared.punctuator.Punctuator.TheVariants.{LeftParenthesis, RightParenthesis, LeftBracket, RightBracket, LeftBrace, RightBrace, Semicolon, Assign}
use Rattle.c_syntax.specs.declared.token.TokenKind.TheVariants as V
use Rattle.c_syntax.specs.Trees.{ExpressionTree, ValueTree, SetTree, LocalTree, StartTree, StatementTree, StatementsTree}
use Rattle.c_syntax.specs.Trees as T
use Rattle.c_syntax.specs.Parts.{Perhaps}
use Rattle.c_syntax.specs.Expressions.{IsExpression}
use Rattle.c_syntax.specs.Statements.{IsValue, IsSet, IsLocalValue, IsLocal, IsStart, IsStatementIn, AreStatements}
use Rattle.c_faults_tokens.specs.Tokens.{behind_set, behind_condition, behind_step, behind_returned, behind_beginning, behind_local, behind_start, behind_statement, behind_statements}
use Rattle.c_faults_tokens.specs.Spelled.{StatementsEnd}
use Rattle.c_faults_tokens.proofs.Ends.{Ends, sign-ends, word-ends, at-ends, name-ends, nothing-ends, then-ends, guarded-ends, typed-ends, first-plain, name-plain}
use Rattle.c_faults_tokens.proofs.Expressions.{expression-ends, call-ends, value-ends, lvalue-ends}
use Rattle.c_faults_tokens.proofs.Changes.{change-ends}

set-ends : (s : SetTree) → Ends (IsSet s) (behind_set s)
set-ends (T.Becomes l e) = then-ends (lvalue-ends l) (then-ends (sign-ends Assign) (expression-ends e))
set-ends (T.Changes c) = change-ends c

condition-ends : (e : Option ExpressionTree) → Ends (Perhaps IsExpression e) (behind_condition e)
condition-ends None = nothing-ends
condition-ends (Some e) = expression-ends e

step-ends : (s : Option SetTree) → Ends (Perhaps IsSet s) (behind_step s)
step-ends None = nothing-ends
step-ends (Some s) = set-ends s

returned-ends : (v : Option ValueTree) → Ends (Perhaps IsValue v) (behind_returned v)
returned-ends None = nothing-ends
returned-ends (Some v) = value-ends v

beginning-ends : (v : Option ValueTree) → Ends (IsLocalValue v) (behind_beginning v)
beginning-ends None = nothing-ends
beginning-ends (Some v) = then-ends (sign-ends Assign) (value-ends v)

local-ends : (l : LocalTree) → Ends (IsLocal l) (behind_local l)
local-ends l =
    typed-ends l.kind (then-ends (name-ends l.name) (then-ends (beginning-ends l.value) (sign-ends Semicolon))) (first-plain (name-plain l.name))

start-ends : (s : StartTree) → Ends (IsStart s) (behind_start s)
start-ends T.StartNothing = sign-ends Semicolon
start-ends (T.StartSet s) = then-ends (set-ends s) (sign-ends Semicolon)
start-ends (T.StartLocal k x e) =
    typed-ends k (then-ends (name-ends x) (then-ends (sign-ends Assign) (then-ends (expression-ends e) (sign-ends Semicolon)))) (first-plain (name-plain x))

mutual
  pub statement-ends : (block : Bool) (s : StatementTree) → Ends (IsStatementIn block s) (behind_statement s)
  statement-ends block T.Empty = sign-ends Semicolon
  statement-ends block (T.Local l) = guarded-ends (local-ends l)
  statement-ends block (T.Block s) = then-ends (sign-ends LeftBrace) (then-ends (statements-end s) (sign-ends RightBrace))
  statement-ends block (T.Call c) = then-ends (call-ends c) (sign-ends Semicolon)
  statement-ends block (T.Assign x v) = then-ends (name-ends x) (then-ends (sign-ends Assign) (then-ends (value-ends v) (sign-ends Semicolon)))
  statement-ends block (T.Store a i e) =
      then-ends (name-ends a)
      (then-ends (sign-ends LeftBracket)
      (then-ends (expression-ends i)
      (then-ends (sign-ends RightBracket) (then-ends (sign-ends Assign) (then-ends (expression-ends e) (sign-ends Semicolon))))))
  statement-ends block (T.Change c) = then-ends (change-ends c) (sign-ends Semicolon)
  statement-ends block (T.If e s) =
      then-ends (word-ends K.If)
      (then-ends (sign-ends LeftParenthesis)
      (then-ends (expression-ends e) (then-ends (sign-ends RightParenthesis) (statement-ends false s))))
  statement-ends block (T.IfElse e s t) =
      guarded-ends
      (then-ends (word-ends K.If)
      (then-ends (sign-ends LeftParenthesis)
      (then-ends (expression-ends e)
      (then-ends (sign-ends RightParenthesis)
      (then-ends (statement-ends false s) (then-ends (word-ends K.Else) (statement-ends false t)))))))
  statement-ends block (T.While e s) =
      then-ends (word-ends K.While)
      (then-ends (sign-ends LeftParenthesis)
      (then-ends (expression-ends e) (then-ends (sign-ends RightParenthesis) (statement-ends false s))))
  statement-ends block (T.Do s e) =
      then-ends (word-ends K.Do)
      (then-ends (statement-ends false s)
      (then-ends (word-ends K.While)
      (then-ends (sign-ends LeftParenthesis)
      (then-ends (expression-ends e) (then-ends (sign-ends RightParenthesis) (sign-ends Semicolon))))))
  statement-ends block (T.For start e step s) =
      then-ends (word-ends K.For)
      (then-ends (sign-ends LeftParenthesis)
      (then-ends (start-ends start)
      (then-ends (condition-ends e)
      (then-ends (sign-ends Semicolon)
      (then-ends (step-ends step) (then-ends (sign-ends RightParenthesis) (statement-ends false s)))))))
  statement-ends block (T.Break at) = then-ends (at-ends (V.Keyword K.Break) at) (sign-ends Semicolon)
  statement-ends block (T.Continue at) = then-ends (at-ends (V.Keyword K.Continue) at) (sign-ends Semicolon)
  statement-ends block (T.Return at v) =
      then-ends (at-ends (V.Keyword K.Return) at) (then-ends (returned-ends v) (sign-ends Semicolon))

  pub statements-end : (s : StatementsTree) → Ends (AreStatements s) (behind_statements s)
  statements-end T.Done = nothing-ends
  statements-end (T.First s rest) = then-ends (statement-ends true s) (statements-end rest)

pub all-end : StatementsEnd
all-end s ts rest h = let p = statements-end s in p.at ts rest h
