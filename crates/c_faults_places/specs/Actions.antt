-- The places of the parts of an action, by the statement that it stands for and the tokens that spell it. Where the action has no
-- such part, there are none.
use Rattle.std.specs.Prelude.{ℕ, List, [], ◌∷◌, ◌++◌, Option, Some, None, if◌then◌else◌}
use Rattle.c_syntax.specs.declared.identifier.Identifier.{Identifier}
use Rattle.c_syntax.specs.declared.token.Token.{Token}
use Rattle.c_syntax.specs.Trees.{ExpressionTree, ValueTree, LvalueTree, ChangeTree, SetTree, LocalTree, StartTree, StatementTree, StatementsTree}
use Rattle.c_syntax.specs.Trees as T
use Rattle.c_program.specs.Trees.{TermTree, GivenTree, ActionTree, ActionsTree}
use Rattle.c_program.specs.Trees as P
use Rattle.c_faults_tokens.specs.Tokens.{next, start, behind_type, behind_expression, behind_head, begins_with_step, lvalue_tokens, sign_tokens, behind_condition, behind_step, behind_start, behind_statement}
use Rattle.c_faults_terms.specs.Terms.{same, first, second, term_places}
use Rattle.c_faults_terms.specs.Shapes.{given_of, plain_of, arguments_of, index_of, stored_of, condition_of, then_of, else_of, all_of}

-- the places of a part, where it is there
abbrev pub of_part : {A : Type 0} → (A → List ℕ) → Option A → List ℕ
of_part places None = []
of_part places (Some x) = places x

abbrev pub argument_places : List ExpressionTree → List TermTree → List Token → List ℕ
argument_places [] terms ts = []
argument_places (e ∷ es) [] ts = []
argument_places (e ∷ es) (t ∷ terms) ts = term_places e t ts ++ argument_places es terms (next (behind_expression e ts))

-- an expression that stands for this term, if there is one
abbrev pub part_places : ExpressionTree → Option TermTree → List Token → List ℕ
part_places e t ts = of_part (λ term. term_places e term ts) t

-- a call's place is that of its name; what else is given has that of where it goes
abbrev pub given_place : ℕ → ValueTree → ℕ
given_place p (T.Plain e) = p
given_place p (T.Called c) = c.callee.offset

abbrev pub value_places : ValueTree → GivenTree → List Token → List ℕ
value_places (T.Plain e) g ts = part_places e (plain_of g) ts
value_places (T.Called c) g ts = argument_places c.arguments (arguments_of g) (next (next ts))

-- the giving of a value, whose tokens these are, to what stands at a place
abbrev pub giving_places : ℕ → ValueTree → ActionTree → List Token → List ℕ
giving_places p v t ts = given_place p v ∷ of_part (λ g. value_places v g ts) (given_of t)

-- a local is declared, and then has its value
abbrev pub beginning_places : ℕ → Option ValueTree → ActionTree → List Token → List ℕ
beginning_places p None t ts = p ∷ []
beginning_places p (Some v) t ts = p ∷ p ∷ of_part (λ u. giving_places p v u (next ts)) (else_of t)

abbrev pub local_places : LocalTree → ActionTree → List Token → List ℕ
local_places l t ts = beginning_places l.name.offset l.value t (next (behind_type l.kind ts))

-- a cell becomes a word: its name's place, its index, and the word
abbrev pub store_places : Identifier → ExpressionTree → ExpressionTree → ActionTree → List Token → List ℕ
store_places a i e t ts =
    let index = next (next ts) in
    let value = next (next (behind_expression i index)) in
    a.offset ∷ part_places i (index_of t) index ++ part_places e (stored_of t) value

-- the value of a change, from its sign on: what `++` and `--` add has their own place
abbrev pub changed_places : ChangeTree → TermTree → List Token → List ℕ
changed_places c t sign = if begins_with_step sign then same (start sign) t else term_places c.value t (next sign)

-- a change of a variable: its place, and that of the sign for the operator
abbrev pub name_places : ℕ → ChangeTree → TermTree → List Token → List ℕ
name_places p c t sign = start sign ∷ same p (first t) ++ changed_places c (second t) sign

-- a change: the lvalue's place, that of the operator's sign, and the parts
abbrev pub change_places : ChangeTree → ActionTree → List Token → List ℕ
change_places c t ts = change c.lvalue
  where
    sign : List Token
    sign = sign_tokens c.lvalue ts

    change : LvalueTree → List ℕ
    change (T.Name x) = x.offset ∷ of_part (λ e. name_places x.offset c e sign) (stored_of t)
    change (T.Cell a i) =
        a.offset ∷ start sign ∷ part_places i (index_of t) (next (next (lvalue_tokens ts))) ++ of_part (λ e. changed_places c e sign) (stored_of t)

abbrev pub becomes_places : LvalueTree → ExpressionTree → ActionTree → List Token → List ℕ
becomes_places (T.Name x) e t ts = x.offset ∷ part_places e (stored_of t) (next (next ts))
becomes_places (T.Cell a i) e t ts = store_places a i e t ts

abbrev pub set_places : SetTree → ActionTree → List Token → List ℕ
set_places (T.Becomes l e) t ts = becomes_places l e t ts
set_places (T.Changes c) t ts = change_places c t ts

-- a `for`'s own local, by what gives its value
abbrev pub start_value_places : ExpressionTree → List Token → ActionTree → List ℕ
start_value_places e ts u = part_places e (stored_of u) ts

abbrev pub start_places : StartTree → ActionTree → List Token → List ℕ
start_places T.StartNothing t ts = start ts ∷ []
start_places (T.StartSet s) t ts = set_places s t ts
start_places (T.StartLocal k x e) t ts =
    x.offset ∷ x.offset ∷ x.offset ∷ of_part (start_value_places e (next (next (behind_type k ts)))) (else_of t)

-- what may be missing has the place of what stands there
abbrev pub condition_places : Option ExpressionTree → TermTree → List Token → List ℕ
condition_places None t ts = same (start ts) t
condition_places (Some e) t ts = term_places e t ts

abbrev pub step_places : Option SetTree → ActionTree → List Token → List ℕ
step_places None t ts = start ts ∷ []
step_places (Some s) t ts = set_places s t ts

abbrev pub return_places : ℕ → Option ValueTree → ActionTree → List Token → List ℕ
return_places at None t ts = at ∷ []
return_places at (Some v) t ts = giving_places at v t ts

-- what stands behind the body of a `do`, from its `while` on: it is left where the condition is 0
abbrev pub until_places : ExpressionTree → List Token → ActionTree → List ℕ
until_places e ts u = start ts ∷ part_places e (condition_of u) (next (next ts)) ++ start ts ∷ start ts ∷ []

-- the loop of a `for` at a place: its condition, its body, and what is done behind it
abbrev pub loop_places : ℕ → Option ExpressionTree → List Token → Option SetTree → List Token → (ActionTree → List ℕ) → ActionTree → List ℕ
loop_places p e condition step last body loop =
    p ∷ of_part (λ c. condition_places e c condition) (condition_of loop)
    ++ of_part body (then_of loop) ++ of_part (λ u. step_places step u last) (else_of loop)

abbrev mutual
  pub action_places : StatementTree → ActionTree → List Token → List ℕ
  action_places T.Empty t ts = start ts ∷ []
  action_places (T.Local l) t ts = local_places l t ts
  action_places (T.Block s) t ts = start ts ∷ actions_places s (all_of t) (next ts)
  action_places (T.Call c) t ts = giving_places c.callee.offset (T.Called c) t ts
  action_places (T.Assign x v) t ts = giving_places x.offset v t (next (next ts))
  action_places (T.Store a i e) t ts = store_places a i e t ts
  action_places (T.Change c) t ts = change_places c t ts
  action_places (T.If e s) t ts =
      let condition = next (next ts) in
      let chosen = behind_head e ts in
      start ts ∷ part_places e (condition_of t) condition ++ of_part (λ u. action_places s u chosen) (then_of t) ++ start ts ∷ []
  action_places (T.IfElse e s z) t ts =
      let condition = next (next ts) in
      let chosen = behind_head e ts in
      let other = next (behind_statement s chosen) in
      start ts ∷ part_places e (condition_of t) condition
      ++ of_part (λ u. action_places s u chosen) (then_of t) ++ of_part (λ u. action_places z u other) (else_of t)
  action_places (T.While e s) t ts =
      let condition = next (next ts) in
      let body = behind_head e ts in
      start ts ∷ part_places e (condition_of t) condition ++ of_part (λ u. action_places s u body) (then_of t) ++ start ts ∷ []
  action_places (T.Do s e) t ts =
      let until = behind_statement s (next ts) in
      start ts ∷ of_part (same (start ts)) (condition_of t)
      ++ of_part (λ u. action_places s u (next ts)) (then_of t) ++ of_part (until_places e until) (else_of t)
  action_places (T.For begun e step s) t ts =
      let head = next (next ts) in
      let condition = behind_start begun head in
      let last = next (behind_condition e condition) in
      let body = next (behind_step step last) in
      start ts ∷ of_part (λ u. start_places begun u head) (then_of t)
      ++ of_part (λ loop. loop_places (start ts) e condition step last (λ u. action_places s u body) loop) (else_of t)
  action_places (T.Break at) t ts = at ∷ []
  action_places (T.Continue at) t ts = at ∷ []
  action_places (T.Return at v) t ts = return_places at v t (next ts)

  pub actions_places : StatementsTree → ActionsTree → List Token → List ℕ
  actions_places T.Done t ts = []
  actions_places (T.First s rest) P.Done ts = []
  actions_places (T.First s rest) (P.First t more) ts = action_places s t ts ++ actions_places rest more (behind_statement s ts)
