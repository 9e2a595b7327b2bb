-- What is done at once, without the stack.
use Rattle.std.specs.Prelude.{◌≡◌, ℕ, ◌+◌, ◌≤◌, Bool, true, false, not, List, Option, Some, None, ◌==◌}
use Rattle.ints.specs.declared.operators.Op.{Op}
use Rattle.c_program.specs.declared.term.Term.{Term}
use Rattle.c_program.specs.declared.action.Action.{Action}
use Rattle.c_program.specs.declared.action.Target.TheVariants.{Local, Caller}
use Rattle.c_program.specs.Trees.{ActionTree, Give, Plain, Store, Update}
use Rattle.c_program.specs.State.{State, word}
use Rattle.c_program.specs.Values.{value}
use Rattle.c_program.specs.Views.{term_tree, action_tree, actions_tree}
use Rattle.c_program.specs.Meaning.{Outcome, Level, Falls, Fails, goes_on, yields, exec, exec_all}
use Rattle.c_meaning_machine.specs.declared.plain.Front.{Front}
use Rattle.c_meaning_machine.specs.declared.plain.Front.TheVariants.{Wrong, Done, Stays}
use Rattle.c_meaning_machine.specs.declared.plain.Entered.{Entered}
use Rattle.c_meaning_machine.specs.declared.plain.Entered.TheVariants as E
use Rattle.c_meaning_machine.specs.declared.scope.Scope.{Scope}
use Rattle.c_meaning_machine.specs.Scopes.{variables_of, state_of}
use Rattle.c_meaning_machine.specs.Costs.{Costs, cost, cost_all}

-- a condition holds where its word is not 0
abbrev pub holds : ℕ → Bool
holds w = not (w == 0)

-- an action was done at once, by what was answered: nothing is done, it fell through, or it went wrong
abbrev pub Ran : Option Bool → ActionTree → Scope → Scope → Type 0
Ran None t old new = new ≡ old
Ran (Some true) t old new = (lower : Level) (output : List ℕ) → exec lower t (state_of old output) ≡ Falls (state_of new output)
Ran (Some false) t old new = (lower : Level) (output : List ℕ) → exec lower t (state_of old output) ≡ Fails output

-- A local became what an expression gives, if it gives something.
abbrev pub Assigned : Bool → ℕ → Term → Scope → Scope → Type 0
Assigned done number term old new = Ran (Some done) (Give (Local number) (Plain (term_tree term))) old new

-- A cell became what an expression gives, if both are there.
abbrev pub Stored : Bool → ℕ → Term → Term → Scope → Scope → Type 0
Stored done global index term old new = Ran (Some done) (Store global (term_tree index) (term_tree term)) old new

-- A cell became what an operator gives of its word and of what an expression gives, if all are there.
abbrev pub Updated : Bool → ℕ → Term → Op → Term → Scope → Scope → Type 0
Updated done global index o term old new = Ran (Some done) (Update global (term_tree index) o (term_tree term)) old new

-- The expression gives this.
abbrev pub IsWorth : Term → Scope → Option ℕ → Type 0
IsWorth term s word = word ≡ value (variables_of s) (term_tree term)

-- One action does what another does here.
abbrev pub Chooses : Action → Scope → Action → Type 0
Chooses one s other =
    (lower : Level) (output : List ℕ) → exec lower (action_tree one) (state_of s output) ≡ exec lower (action_tree other) (state_of s output)

-- It goes wrong here.
abbrev pub ChoosesNone : Action → Scope → Type 0
ChoosesNone one s = (lower : Level) (output : List ℕ) → exec lower (action_tree one) (state_of s output) ≡ Fails output

-- It costs no more.
abbrev pub CostsNoMore : Action → Action → Type 0
CostsNoMore one other = (lower : Costs) → cost lower (action_tree other) ≤ cost lower (action_tree one)

-- What these actions have come to: they went wrong, they fell through, or this one is done next and then the rest.
abbrev pub Comes : Front → List Action → Scope → Scope → Type 0
Comes Wrong actions old new = (lower : Level) (output : List ℕ) → exec_all lower (actions_tree actions) (state_of old output) ≡ Fails output
Comes Done actions old new =
    (lower : Level) (output : List ℕ) → exec_all lower (actions_tree actions) (state_of old output) ≡ Falls (state_of new output)
Comes (Stays action rest) actions old new =
    (lower : Level) (output : List ℕ) →
    exec_all lower (actions_tree actions) (state_of old output) ≡ goes_on (exec_all lower (actions_tree rest.now)) (exec lower (action_tree action.now) (state_of new output))

-- What is left of them costs no more than they did.
abbrev pub ComesCheaper : Front → List Action → Type 0
ComesCheaper Wrong actions = Unit {0}
ComesCheaper Done actions = Unit {0}
ComesCheaper (Stays action rest) actions =
    (lower : Costs) → cost lower (action_tree action.now) + cost_all lower (actions_tree rest.now) ≤ cost_all lower (actions_tree actions)

-- the word of this expression is given back
abbrev pub yields_back : Term → State → Outcome
yields_back term s = yields Caller s (word (term_tree term) s)

-- What a body has come to: it went wrong, this expression is given back, or these actions are left.
abbrev pub Enters : Entered → List Action → Scope → Scope → Type 0
Enters E.Wrong body old new = (lower : Level) (output : List ℕ) → exec_all lower (actions_tree body) (state_of old output) ≡ Fails output
Enters (E.Returns term) body old new =
    (lower : Level) (output : List ℕ) → exec_all lower (actions_tree body) (state_of old output) ≡ yields_back term.now (state_of new output)
Enters (E.Stays left) body old new =
    (lower : Level) (output : List ℕ) → exec_all lower (actions_tree body) (state_of old output) ≡ exec_all lower (actions_tree left.now) (state_of new output)

-- What is left of a body costs no more than it did.
abbrev pub LeavesNoMore : Entered → List Action → Type 0
LeavesNoMore E.Wrong body = Unit {0}
LeavesNoMore (E.Returns term) body = Unit {0}
LeavesNoMore (E.Stays left) body = (lower : Costs) → cost_all lower (actions_tree left.now) ≤ cost_all lower (actions_tree body)
