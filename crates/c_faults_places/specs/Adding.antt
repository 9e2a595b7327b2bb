-- What is put behind a list of places.
use Rattle.std.specs.Prelude.{ℕ, List, ◌∷◌, ◌++◌, map, Option}
use Rattle.std.specs.Global.{Vec}
use Rattle.c_syntax.specs.declared.expression.Expression.{Expression}
use Rattle.c_syntax.specs.declared.identifier.Identifier.{Identifier}
use Rattle.c_syntax.specs.declared.statement.Call.{Call}
use Rattle.c_syntax.specs.declared.statement.Change.{Change}
use Rattle.c_syntax.specs.declared.statement.ForHead.{ForHead}
use Rattle.c_syntax.specs.declared.statement.Lvalue.{Lvalue}
use Rattle.c_syntax.specs.declared.statement.Statement.{Statement}
use Rattle.c_syntax.specs.declared.statement.Value.{Value}
use Rattle.c_syntax.specs.declared.token.Token.{Token}
use Rattle.c_syntax.specs.declared.statement.ForStart.{ForStart}
use Rattle.c_syntax.specs.declared.statement.Local.{Local}
use Rattle.c_syntax.specs.declared.statement.Set.{Set}
use Rattle.c_syntax.specs.Trees as T
use Rattle.c_syntax.specs.Views.{optional_tree, expression_tree, call_tree, value_tree, lvalue_tree, change_tree, set_tree, local_tree, start_tree, statement_tree, statements_tree}
use Rattle.c_program.specs.declared.action.Action.{Action}
use Rattle.c_program.specs.declared.action.Value as P
use Rattle.c_program.specs.declared.term.Term.{Term}
use Rattle.c_program.specs.Trees.{TermTree, ActionTree}
use Rattle.c_program.specs.Views.{term_tree, given_tree, action_tree, actions_tree}
use Rattle.c_faults_tokens.specs.Tokens.{next, start, behind_condition, behind_step, behind_head}
use Rattle.c_faults_terms.specs.Shapes.{condition_of, then_of}
use Rattle.c_faults_terms.specs.Adding.{Adds}
use Rattle.c_faults_places.specs.Actions.{of_part, part_places, argument_places, value_places, giving_places, local_places, store_places, changed_places, name_places, change_places, becomes_places, set_places, start_places, condition_places, step_places, return_places, until_places, loop_places, action_places, actions_places}

-- an expression that stands for this part of an action
abbrev pub AddsPart : (ActionTree → Option TermTree) → List ℕ → List ℕ → Expression → Action → List Token → Type 0
AddsPart part old new e a ts = Adds old new (part_places (expression_tree e) (part (action_tree a)) ts)

abbrev pub AddsArguments : List ℕ → List ℕ → List Expression → List Term → List Token → Type 0
AddsArguments old new es terms ts = Adds old new (argument_places (map expression_tree es) (map term_tree terms) ts)

-- a value, and its giving to what stands at a place
abbrev pub AddsValue : List ℕ → List ℕ → Value → P.Value → List Token → Type 0
AddsValue old new v g ts = Adds old new (value_places (value_tree v) (given_tree g) ts)

abbrev pub AddsGiving : List ℕ → List ℕ → ℕ → Value → Action → List Token → Type 0
AddsGiving old new p v a ts = Adds old new (giving_places p (value_tree v) (action_tree a) ts)

-- a statement that stands for this part of an action, if there is one
abbrev pub AddsAction : List ℕ → List ℕ → Statement → Action → List Token → Type 0
AddsAction old new s a ts = Adds old new (action_places (statement_tree s) (action_tree a) ts)

abbrev pub AddsInner : (ActionTree → Option ActionTree) → List ℕ → List ℕ → Statement → Action → List Token → Type 0
AddsInner part old new s a ts = Adds old new (of_part (λ u. action_places (statement_tree s) u ts) (part (action_tree a)))

abbrev pub AddsActions : List ℕ → List ℕ → List Statement → List Action → List Token → Type 0
AddsActions old new ss us ts = Adds old new (actions_places (statements_tree ss) (actions_tree us) ts)

-- the same of a part that has its places by the action alone
abbrev pub AddsBy : (ActionTree → List Token → List ℕ) → Vec ℕ → Vec ℕ → Action → List Token → Type 0
AddsBy places old new a ts = Adds old.items new.items (places (action_tree a) ts)

-- what such a part adds, by the action
abbrev pub dropped_places : Call → ActionTree → List Token → List ℕ
dropped_places c = giving_places c.callee.offset (T.Called (call_tree c))

abbrev pub cell_places : Identifier → Expression → Expression → ActionTree → List Token → List ℕ
cell_places a i e = store_places a (expression_tree i) (expression_tree e)

abbrev pub returning_places : ℕ → Option Value → ActionTree → List Token → List ℕ
returning_places p v = return_places p (optional_tree value_tree v)

abbrev pub declaring_places : Local → ActionTree → List Token → List ℕ
declaring_places l = local_places (local_tree l)

abbrev pub changing_places : Change → ActionTree → List Token → List ℕ
changing_places c = change_places (change_tree c)

abbrev pub becoming_places : Lvalue → Expression → ActionTree → List Token → List ℕ
becoming_places l e = becomes_places (lvalue_tree l) (expression_tree e)

abbrev pub setting_places : Set → ActionTree → List Token → List ℕ
setting_places s = set_places (set_tree s)

abbrev pub starting_places : ForStart → ActionTree → List Token → List ℕ
starting_places s = start_places (start_tree s)

abbrev pub stepping_places : Option Set → ActionTree → List Token → List ℕ
stepping_places s = step_places (optional_tree set_tree s)

-- the value of a change, and a change of a variable, from the sign on
abbrev pub AddsChanged : List ℕ → List ℕ → Change → Term → List Token → Type 0
AddsChanged old new c t sign = Adds old new (changed_places (change_tree c) (term_tree t) sign)

abbrev pub AddsName : List ℕ → List ℕ → ℕ → Change → Term → List Token → Type 0
AddsName old new p c t sign = Adds old new (name_places p (change_tree c) (term_tree t) sign)

-- the condition of a `for`
abbrev pub AddsGoing : List ℕ → List ℕ → Option Expression → Term → List Token → Type 0
AddsGoing old new e t ts = Adds old new (condition_places (optional_tree expression_tree e) (term_tree t) ts)

abbrev pub ending_places : Expression → ActionTree → List Token → List ℕ
ending_places e a ts = until_places (expression_tree e) ts a

-- a word, the condition behind it, and the first of two actions
abbrev pub branch_places : Expression → Statement → ActionTree → List Token → List ℕ
branch_places e s t ts =
    let condition = expression_tree e in
    start ts ∷ part_places condition (condition_of t) (next (next ts))
    ++ of_part (λ u. action_places (statement_tree s) u (behind_head condition ts)) (then_of t)

-- the statements that hold others
abbrev pub if_places : Expression → Statement → ActionTree → List Token → List ℕ
if_places e s = action_places (T.If (expression_tree e) (statement_tree s))

abbrev pub do_places : Statement → Expression → ActionTree → List Token → List ℕ
do_places s e = action_places (T.Do (statement_tree s) (expression_tree e))

abbrev pub for_places : ForHead → Statement → ActionTree → List Token → List ℕ
for_places h s = action_places (T.For (start_tree h.start) (optional_tree expression_tree h.condition) (optional_tree set_tree h.step) (statement_tree s))

-- the loop of a `for` at a place, from its condition on
abbrev pub AddsLoop : List ℕ → List ℕ → ℕ → ForHead → Statement → Action → List Token → Type 0
AddsLoop old new p h s a ts =
    let e = optional_tree expression_tree h.condition in
    let step = optional_tree set_tree h.step in
    let last = next (behind_condition e ts) in
    let body = next (behind_step step last) in
    Adds old new (loop_places p e ts step last (λ u. action_places (statement_tree s) u body) (action_tree a))
