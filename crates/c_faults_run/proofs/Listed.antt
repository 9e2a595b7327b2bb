-- The words of arguments, whatever is printed so far.
use Rattle.std.proofs.Common.{◌≡◌, ℕ, List, [], map, Option, Some, None, sym, ap, subst, ◌∙◌}
use Rattle.c_program.specs.declared.term.Term.{Term}
use Rattle.c_program.specs.Views.{term_tree}
use Rattle.c_program.specs.State.{words}
use Rattle.c_meaning_machine.specs.declared.scope.Scope.{Scope}
use Rattle.c_meaning_machine.specs.Scopes.{state_of, variables_of}
use Rattle.c_meaning_machine.proofs.Placing.{words_output}
use Rattle.c_faults.specs.declared.gap.Gap.{Gap}
use Rattle.c_faults.specs.Places.{others}
use Rattle.c_faults.specs.Gaps.{first_gap}
use Rattle.c_faults_run.specs.Calls.{AreWorth}

pub worth_here : (ps qs : List ℕ) (es terms : List Term) (scope : Scope) (ws : List ℕ) (found : Option Gap) (output : List ℕ) →
    AreWorth qs terms scope ws found → found ≡ None → terms ≡ es → qs ≡ others ps →
    (words (map term_tree es) (state_of scope output) ≡ Some ws) × (first_gap (others ps) (variables_of scope) (map term_tree es) ≡ None)
worth_here ps qs es terms scope ws found output h none same at =
    let w = subst (λ (o : Option Gap). AreWorth qs terms scope ws o) none h in (
      ap (λ l. words (map term_tree l) (state_of scope output)) (sym same) ∙ words_output (map term_tree terms) (state_of scope []) output ∙ w.0,
      ap (λ l. first_gap (others ps) (variables_of scope) (map term_tree l)) (sym same)
          ∙ ap (λ p. first_gap p (variables_of scope) (map term_tree terms)) (sym at) ∙ w.1,
    )

pub gap_there : (ps qs : List ℕ) (es terms : List Term) (scope : Scope) (ws : List ℕ) (found : Option Gap) (g : Gap) (output : List ℕ) →
    AreWorth qs terms scope ws found → found ≡ Some g → terms ≡ es → qs ≡ others ps →
    first_gap (others ps) (variables_of scope) (map term_tree es) ≡ Some g
gap_there ps qs es terms scope ws found g output h some same at =
    let w = subst (λ (o : Option Gap). AreWorth qs terms scope ws o) some h in
    ap (λ l. first_gap (others ps) (variables_of scope) (map term_tree l)) (sym same)
    ∙ ap (λ p. first_gap p (variables_of scope) (map term_tree terms)) (sym at) ∙ w.1
