-- The statement that an action is lowered to is in range.
use Rattle.std.proofs.Common.{◌≡◌, ℕ, suc, ◌<◌, ◌≤◌, [], Option, Some, None, refl, ap, arith}
use Rattle.std.specs.Prelude.{false}
use Rattle.c_syntax.specs.declared.declaration.ReturnType.{ReturnType}
use Rattle.c_syntax.specs.declared.declaration.ReturnType.TheVariants as R
use Rattle.c_syntax.specs.declared.expression.AssignOperator.{AssignOperator}
use Rattle.c_syntax.specs.Signs.{binary_of}
use Rattle.c_syntax.specs.Trees.{ExpressionTree, ValueTree, LvalueTree, SetTree, StartTree, StatementTree, StatementsTree}
use Rattle.c_syntax.specs.Trees as T
use Rattle.c_program.specs.declared.action.Target.TheVariants as G
use Rattle.c_program.specs.Trees.{TermTree, ActionTree, ActionsTree}
use Rattle.c_program.specs.Trees as P
use Rattle.c_checker_rules.specs.declared.context.Context.{Context}
use Rattle.c_checker_rules.specs.Names.{Scope, meaning_of}
use Rattle.c_checker_rules.specs.Types.{variable_type, type_of}
use Rattle.c_checker_rules.specs.Terms.{variable_term, term_of}
use Rattle.c_checker_rules.specs.Expressions.{variable_faults, expression_faults}
use Rattle.c_checker_rules.specs.Calls.{Functions, value_faults}
use Rattle.c_checker_rules.specs.Locals.{Here, left, deeper, looping, local_faults, with_local}
use Rattle.c_checker_rules.specs.Statements.{with_start, after, after_all, optional_faults, set_faults, start_faults, return_faults, statement_faults, statements_faults}
use Rattle.c_checker_rules.specs.Actions.{target_of, declared, change_action, set_action, start_action, condition, step_action, return_action, action_of, actions_of}
use Rattle.cminor_syntax.specs.Fits.{StatementFits, StatementsFit, statement_count}
use Rattle.cminor_lowering.specs.Actions.{low_action, low_actions}
use Rattle.cminor_lowering.specs.Held.{HasWords, IsHeld, AreHeld, action_count}
use Rattle.cminor_lowering.proofs.Pieces.{sequence_fits}
use Rattle.cminor_lowering_ranges.proofs.Faults.{none_before, none_behind, three_parts, four_parts}
use Rattle.cminor_lowering_ranges.proofs.Scopes.{ScopeFits, meant_fits, array_fits, target_fits}
use Rattle.cminor_lowering_ranges.proofs.Terms.{TermFits, variable_fits, binary_fits, two_arguments, term_fits}
use Rattle.cminor_lowering_ranges.proofs.Values.{FunctionsFit, call_fits, value_fits, give_fits}
use Rattle.cminor_lowering_ranges.proofs.Locals.{grows, all_grow, start_scope, scope_behind}

pub low_count : (n : ℕ) (ss : ActionsTree) → statement_count (low_actions n ss) ≡ action_count ss
low_count n P.Done = refl
low_count n (P.First s rest) = ap (λ k. suc k) (low_count n rest)

-- among so many locals
abbrev pub ActionFits : ℕ → ActionTree → Type 0
ActionFits n a = StatementFits (suc n) (low_action n a)

loop_fits : (n : ℕ) (c : TermTree) (body behind : ActionTree) → TermFits n c → ActionFits n body → ActionFits n behind → ActionFits n (P.Loop c body behind)
loop_fits n c body behind cond inner step = (omega arith, ((cond, (tt, omega arith)), (inner, (step, tt))))

becomes_fits : (n : ℕ) (scope : Scope) (l : LvalueTree) (e : ExpressionTree) → ScopeFits n scope →
    IsHeld (set_action scope (T.Becomes l e)) → ActionFits n (set_action scope (T.Becomes l e))
becomes_fits n scope (T.Name x) e fits words =
    give_fits n (target_of (meaning_of scope x)) (P.Plain (term_of scope e)) (target_fits n (meaning_of scope x) (meant_fits n scope x fits)) (term_fits n scope e fits words)
becomes_fits n scope (T.Cell a i) e fits words =
    (array_fits n (meaning_of scope a) (meant_fits n scope a fits), (term_fits n scope i fits words.0, term_fits n scope e fits words.1))

change_fits : (n : ℕ) (scope : Scope) (l : LvalueTree) (o : AssignOperator) (e : ExpressionTree) → ScopeFits n scope →
    IsHeld (change_action scope (record { lvalue = l; operator = o; value = e })) → ActionFits n (change_action scope (record { lvalue = l; operator = o; value = e }))
change_fits n scope (T.Name x) o e fits words =
    let m = meaning_of scope x in
    let there = meant_fits n scope x fits in
    give_fits n (target_of m) (P.Plain _) (target_fits n m there)
    (binary_fits n (variable_type m) (type_of scope e) (variable_term m) (term_of scope e) (λ w. variable_fits n m there) (term_fits n scope e fits) (binary_of o) words)
change_fits n scope (T.Cell a i) o e fits words =
    let there = array_fits n (meaning_of scope a) (meant_fits n scope a fits) in
    let count = two_arguments o (variable_type (meaning_of scope a)) (type_of scope e) in
    (omega arith, ((omega arith, term_fits n scope i fits words.0), ((there, (omega arith, (count, ((there, omega arith), term_fits n scope e fits words.1)))), tt)))

set_fits : (n : ℕ) (scope : Scope) (s : SetTree) → ScopeFits n scope → IsHeld (set_action scope s) → ActionFits n (set_action scope s)
set_fits n scope (T.Becomes l e) fits words = becomes_fits n scope l e fits words
set_fits n scope (T.Changes c) fits words = change_fits n scope c.lvalue c.operator c.value fits words

start_fits : (n depth : ℕ) (h : Here) (start : StartTree) → ScopeFits n h.scope → (with_start depth h start).locals ≤ n →
    IsHeld (start_action depth h start) → ActionFits n (start_action depth h start)
start_fits n depth h T.StartNothing fits within words = tt
start_fits n depth h (T.StartSet s) fits within words = set_fits n h.scope s fits words
start_fits n depth h (T.StartLocal t x e) fits within words =
    let inner = (with_local depth h t x).scope in
    (omega arith, (tt, (give_fits n (G.Local h.locals) (P.Plain (term_of inner e)) within (term_fits n inner e (within, fits) words.1.1.0), tt)))

condition_fits : (n : ℕ) (scope : Scope) (e : Option ExpressionTree) → ScopeFits n scope → HasWords (condition scope e) → TermFits n (condition scope e)
condition_fits n scope None fits words = omega arith
condition_fits n scope (Some e) fits words = term_fits n scope e fits words

step_fits : (n : ℕ) (scope : Scope) (step : Option SetTree) → ScopeFits n scope → IsHeld (step_action scope step) → ActionFits n (step_action scope step)
step_fits n scope None fits words = tt
step_fits n scope (Some s) fits words = set_fits n scope s fits words

module _ (n : ℕ) (f : Functions) (known : FunctionsFit f) where
  declared_fits : (scope : Scope) (k : ℕ) (v : Option ValueTree) → k < n → ScopeFits n scope → optional_faults (value_faults f scope) v ≡ [] →
      IsHeld (declared f scope k v) → ActionFits n (declared f scope k v)
  declared_fits scope k None there fits none words = tt
  declared_fits scope k (Some v) there fits none words = (omega arith, (tt, (give_fits n (G.Local k) _ there (value_fits n f scope v known fits none words.1.1.0), tt)))

  returned_fits : (scope : Scope) (result : ReturnType) (at : ℕ) (v : Option ValueTree) → ScopeFits n scope → return_faults f scope result at v ≡ [] →
      IsHeld (return_action f scope v) → ActionFits n (return_action f scope v)
  returned_fits scope result at None fits none words = tt
  returned_fits scope R.Void at (Some v) fits none words = absurd cc
  returned_fits scope (R.Value t) at (Some v) fits none words = give_fits n G.Caller _ tt (value_fits n f scope v known fits none words)

  mutual
    statement_fits : (p : Context) (h : Here) (s : StatementTree) → ScopeFits n h.scope → (after p.depth h s).locals ≤ n → statement_faults f p h s ≡ [] →
        IsHeld (action_of f p.depth h s) → ActionFits n (action_of f p.depth h s)
    statement_fits p h T.Empty fits within none words = tt
    statement_fits p h (T.Local l) fits within none words =
        let inner = (with_local p.depth h l.kind l.name).scope in
        declared_fits inner h.locals l.value within (within, fits) (none_behind (local_faults p.depth h l.name) (optional_faults (value_faults f inner) l.value) none) words
    statement_fits p h (T.Block s) fits within none words =
        let count = low_count n (actions_of f (suc p.depth) h s) in
        let few = words.0 in
        sequence_fits (suc n) (low_actions n (actions_of f (suc p.depth) h s)) (omega (arith, count, few)) (statements_fit (deeper p) h s fits within none words.1)
    statement_fits p h (T.Call c) fits within none words = give_fits n G.Nowhere _ tt (call_fits n f h.scope false c known fits none words)
    statement_fits p h (T.Assign x v) fits within none words =
        let m = meaning_of h.scope x in
        give_fits n (target_of m) _ (target_fits n m (meant_fits n h.scope x fits)) (value_fits n f h.scope v known fits (none_behind (variable_faults m x.offset) (value_faults f h.scope v) none) words)
    statement_fits p h (T.Store a i e) fits within none words =
        (array_fits n (meaning_of h.scope a) (meant_fits n h.scope a fits), (term_fits n h.scope i fits words.0, term_fits n h.scope e fits words.1))
    statement_fits p h (T.Change c) fits within none words = change_fits n h.scope c.lvalue c.operator c.value fits words
    statement_fits p h (T.If e s) fits within none words =
        (term_fits n h.scope e fits words.0, (statement_fits p h s fits within (none_behind (expression_faults h.scope e) (statement_faults f p h s) none) words.1.0, tt))
    statement_fits p h (T.IfElse e s t) fits within none words =
        let other = left h (after p.depth h s) in
        let parts = three_parts (expression_faults h.scope e) (statement_faults f p h s) (statement_faults f p other t) none in
        let more = grows p.depth other t in
        (term_fits n h.scope e fits words.0, (statement_fits p h s fits (omega (arith, within, more)) parts.1 words.1.0, statement_fits p other t fits within parts.2 words.1.1))
    statement_fits p h (T.While e s) fits within none words =
        loop_fits n (term_of h.scope e) (action_of f p.depth h s) P.Nothing (term_fits n h.scope e fits words.0)
        (statement_fits (looping p) h s fits within (none_behind (expression_faults h.scope e) (statement_faults f (looping p) h s) none) words.1.0) tt
    statement_fits p h (T.Do s e) fits within none words =
        loop_fits n (P.Constant 1) (action_of f p.depth h s) (P.If (term_of h.scope e) P.Nothing P.Continue) (omega arith)
        (statement_fits (looping p) h s fits within (none_before (statement_faults f (looping p) h s) (expression_faults h.scope e) none) words.1.0)
        (term_fits n h.scope e fits words.1.1.0, (tt, omega arith))
    statement_fits p h (T.For start e step s) fits within none words =
        let depth = suc p.depth in
        let inner = with_start depth h start in
        let parts = four_parts (start_faults depth h start) (optional_faults (expression_faults inner.scope) e) (optional_faults (set_faults inner.scope) step) (statement_faults f (looping (deeper p)) inner s) none in
        let more = grows depth inner s in
        let few : inner.locals ≤ n = omega (arith, within, more) in
        let there = start_scope n depth h start fits few in
        let loop = words.1.1.0 in (
          omega arith,
          (
            start_fits n depth h start fits few words.1.0,
            (
              loop_fits n (condition inner.scope e) (action_of f depth inner s) (step_action inner.scope step)
                  (condition_fits n inner.scope e there loop.0) (statement_fits (looping (deeper p)) inner s there within parts.3 loop.1.0) (step_fits n inner.scope step there loop.1.1),
              tt,
            ),
          ),
        )
    statement_fits p h (T.Break at) fits within none words = omega arith
    statement_fits p h (T.Continue at) fits within none words = omega arith
    statement_fits p h (T.Return at v) fits within none words = returned_fits h.scope p.result at v fits none words

    pub statements_fit : (p : Context) (h : Here) (ss : StatementsTree) → ScopeFits n h.scope → (after_all p.depth h ss).locals ≤ n → statements_faults f p h ss ≡ [] →
        AreHeld (actions_of f p.depth h ss) → StatementsFit (suc n) (low_actions n (actions_of f p.depth h ss))
    statements_fit p h T.Done fits within none words = tt
    statements_fit p h (T.First s rest) fits within none words =
        let behind = after p.depth h s in
        let more = all_grow p.depth behind rest in
        let few : behind.locals ≤ n = omega (arith, within, more) in (
          statement_fits p h s fits few (none_before (statement_faults f p h s) (statements_faults f p behind rest) none) words.0,
          statements_fit p behind rest (scope_behind n p.depth h s fits few) within (none_behind (statement_faults f p h s) (statements_faults f p behind rest) none) words.1,
        )
