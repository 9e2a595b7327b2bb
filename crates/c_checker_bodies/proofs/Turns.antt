-- Statements one behind the other, as a loop reads them.
use Rattle.std.proofs.Common.{◌≡◌, ℕ, ◌+◌, ◌≤◌, ◌<◌, List, [], ◌∷◌, ◌++◌, length, drop, ap, sym, refl, subst, ◌∙◌}
use Rattle.std.proofs.Math.ListN.{get_or, drop_of_length-le}
use Rattle.c_syntax.specs.declared.statement.Statement.{Statement}
use Rattle.c_syntax.specs.Heights.{statement_height, statements_height}
use Rattle.c_syntax.specs.Views.{statement_tree, statements_tree}
use Rattle.c_program.specs.declared.action.Action.{Action}
use Rattle.c_program.specs.Trees as T
use Rattle.c_program.specs.Views.{action_tree, actions_tree}
use Rattle.c_program.proofs.Sequences.{before, before_last, before_none}
use Rattle.c_checker_rules.specs.declared.context.Context.{Context}
use Rattle.c_checker_rules.specs.Calls.{Functions}
use Rattle.c_checker_rules.specs.Locals.{Here}
use Rattle.c_checker_rules.specs.Statements.{after, after_all, statement_faults, statements_faults}
use Rattle.c_checker_rules.specs.Actions.{action_of, actions_of}
use Rattle.c_checker_bodies.proofs.Heights.{rest_low}
use Rattle.c_checker_rules.proofs.Lists.{drop_next}

-- What is left has the faults of the whole and declares what the whole declares, and its actions end those of the whole.
pub record IsUnderWay (f : Functions) (p : Context) (start : Here) (all : List Statement) (now : Here) (actions : List Action) (rest : List Statement) : Type 0 where
  pub low : p.depth + statements_height (statements_tree rest) ≤ 1000
  pub faults : statements_faults f p start (statements_tree all) ≡ statements_faults f p now (statements_tree rest)
  pub names : after_all p.depth start (statements_tree all) ≡ after_all p.depth now (statements_tree rest)
  pub made : actions_of f p.depth start (statements_tree all) ≡ before actions (actions_of f p.depth now (statements_tree rest))

module _ (f : Functions) (p : Context) (start : Here) (all : List Statement) where
  pub begins : p.depth + statements_height (statements_tree all) ≤ 1000 → IsUnderWay f p start all start [] all
  begins low = record { low = low; faults = refl; names = refl; made = refl }

  -- one more statement, which has no faults
  pub goes_on : (now : Here) (actions : List Action) (i : ℕ) (s : Statement) (a : Action) →
      i < length all → s ≡ get_or all i s → IsUnderWay f p start all now actions (drop i all) →
      statement_faults f p now (statement_tree s) ≡ [] → action_tree a ≡ action_of f p.depth now (statement_tree s) →
      IsUnderWay f p start all (after p.depth now (statement_tree s)) (actions ++ a ∷ []) (drop (i + 1) all)
  goes_on now actions i s a within item so_far none made =
      let next : drop i all ≡ s ∷ drop (i + 1) all = drop_next all i s within item in
      let behind = statements_tree (drop (i + 1) all) in
      let whole : p.depth + statements_height (statements_tree (s ∷ drop (i + 1) all)) ≤ 1000 =
      subst (λ l. p.depth + statements_height (statements_tree l) ≤ 1000) next so_far.low in
      record {
        low = rest_low p.depth (statement_height (statement_tree s)) (statements_height behind) whole;
        faults = so_far.faults ∙ ap (λ l. statements_faults f p now (statements_tree l)) next
            ∙ ap (λ l. l ++ statements_faults f p (after p.depth now (statement_tree s)) behind) none;
        names = so_far.names ∙ ap (λ l. after_all p.depth now (statements_tree l)) next;
        made = so_far.made ∙ ap (λ l. before actions (actions_of f p.depth now (statements_tree l))) next
            ∙ ap (λ l. before actions (T.First l (actions_of f p.depth (after p.depth now (statement_tree s)) behind))) (sym made)
            ∙ sym (before_last actions a (actions_of f p.depth (after p.depth now (statement_tree s)) behind));
      }

  -- nothing is left
  pub all_made : (now : Here) (actions : List Action) (i : ℕ) → length all ≤ i → IsUnderWay f p start all now actions (drop i all) →
      actions_tree actions ≡ actions_of f p.depth start (statements_tree all)
  all_made now actions i past so_far =
      let none : drop i all ≡ [] = drop_of_length-le all past in
      sym (before_none actions) ∙ sym (ap (λ l. before actions (actions_of f p.depth now (statements_tree l))) none) ∙ sym so_far.made
