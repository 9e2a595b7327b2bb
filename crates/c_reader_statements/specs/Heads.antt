-- What stands behind the head of a statement: its statements, which another reading reads.
use Rattle.std.specs.Prelude.{◌≡◌, ℕ, Bool, true, false, List, Option, Ok}
use Rattle.c_syntax.specs.declared.punctuator.Punctuator.TheVariants.{LeftParenthesis, RightParenthesis, LeftBracket, RightBracket, RightBrace, Semicolon, Assign}
use Rattle.c_syntax.specs.declared.expression.Expression.{Expression}
use Rattle.c_syntax.specs.declared.token.Token.{Token}
use Rattle.c_syntax.specs.Trees.{ExpressionTree, ValueTree, StatementTree}
use Rattle.c_syntax.specs.Trees as T
use Rattle.c_syntax.specs.Views.{expression_tree, optional_tree, set_tree, start_tree}
use Rattle.c_reader_tokens.specs.Reading.{Reading}
use Rattle.c_reader_tokens.specs.Tokens.{sign}
use Rattle.c_reader_expression_laws.specs.Reading.{expression_at}
use Rattle.c_reader_productions.specs.Combining.{◌▷◌, ◌◁◌, ◌&◌, made}
use Rattle.c_reader_productions.specs.Parts.{arguments, local_value}
use Rattle.c_reader_statement_laws.specs.Reading.{Below, statements_of, branched, items_in, branches_in, if_in, do_end, by_first}
use Rattle.c_reader_statement_laws.specs.declared.first.First.{First}
use Rattle.c_reader_statement_laws.specs.declared.first.First.TheVariants as F
use Rattle.c_reader_statements.specs.declared.heads.Head.{Head}
use Rattle.c_reader_statements.specs.declared.heads.Head.TheVariants as H
use Rattle.c_reader_statements.specs.declared.heads.Loop.{Loop}
use Rattle.c_reader_statements.specs.declared.heads.Loop.TheVariants as L

-- what begins so has no statement inside
abbrev pub is_whole : First → Bool
is_whole F.Empty = true
is_whole F.Local = true
is_whole F.Block = false
is_whole F.Call = true
is_whole F.Assign = true
is_whole F.Store = true
is_whole F.Step = true
is_whole F.If = false
is_whole F.While = false
is_whole F.Do = false
is_whole F.For = false
is_whole F.Break = true
is_whole F.Continue = true
is_whole F.Return = true
is_whole F.Other = true

-- what was read before
abbrev pub have : {A : Type 0} → A → Reading A
have x ts = Ok (x, ts)

-- `=`, what an lvalue becomes, and `;`
abbrev pub becoming : {A : Type 0} → Reading A → Reading A
becoming part ts = (sign Assign ▷ part ◁ sign Semicolon) ts

-- an index between brackets, and arguments between parentheses
abbrev pub index : ℕ → Reading ExpressionTree
index fuel ts = (sign LeftBracket ▷ expression_at fuel 0 ◁ sign RightBracket) ts

abbrev pub given : ℕ → Reading (List ExpressionTree)
given fuel ts = (sign LeftParenthesis ▷ arguments fuel ◁ sign RightParenthesis) ts

-- the value of a local, if it has one, and `;`
abbrev pub local_end : ℕ → Reading (Option ValueTree)
local_end fuel ts = (local_value fuel ◁ sign Semicolon) ts

-- what a loop makes of its body
abbrev pub looped : Loop → StatementTree → StatementTree
looped (L.While e) s = T.While (expression_tree e) s
looped (L.For head) s = T.For (start_tree head.value.start) (optional_tree expression_tree head.value.condition) (optional_tree set_tree head.value.step) s

abbrev pub behind_if : Below → ExpressionTree → Reading StatementTree
behind_if below e ts = made (λ v. branched v.0 v.1.0 v.1.1) (have e & branches_in below) ts

-- an `if` begins with this condition, and these tokens are behind it
abbrev pub BeginsIf : (fuel : ℕ) → (tokens : List Token) → Expression → (rest : List Token) → Type 0
BeginsIf fuel tokens condition rest = (below : Below) → if_in below fuel tokens ≡ behind_if below (expression_tree condition) rest

abbrev pub behind_loop : Below → Loop → Reading StatementTree
behind_loop below (L.While e) ts = made (λ v. T.While v.0 v.1) (have (expression_tree e) & below false) ts
behind_loop below (L.For head) ts = made (λ v. T.For v.0 v.1.0 v.1.1.0 v.1.1.1)
    (have (start_tree head.value.start) & have (optional_tree expression_tree head.value.condition) & have (optional_tree set_tree head.value.step) & below false) ts

abbrev pub behind_do : Below → ℕ → Reading StatementTree
behind_do below fuel ts = made (λ v. T.Do v.0 v.1) (below false & do_end fuel) ts

abbrev pub behind : Below → ℕ → Head → Reading StatementTree
behind below fuel H.Block ts = made (λ s. T.Block s) (made statements_of (items_in below ◁ sign RightBrace)) ts
behind below fuel (H.If e) ts = behind_if below (expression_tree e) ts
behind below fuel (H.Loop head) ts = behind_loop below head ts
behind below fuel H.Do ts = behind_do below fuel ts

-- what begins so is this head, and these tokens are behind it
abbrev pub Begins : (fuel : ℕ) → First → (tokens : List Token) → Head → (rest : List Token) → Type 0
Begins fuel first tokens head rest = (below : Below) → by_first below fuel first tokens ≡ behind below fuel head rest

-- what begins so is all of this statement, and these tokens are behind it
abbrev pub BeginsWhole : (fuel : ℕ) → First → (tokens : List Token) → StatementTree → (rest : List Token) → Type 0
BeginsWhole fuel first tokens s rest = (below : Below) → by_first below fuel first tokens ≡ Ok (s, rest)
