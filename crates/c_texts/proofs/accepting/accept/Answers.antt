-- Why `accept` meets its clauses `only`, `refused` and `accepted`.
use Rattle.std.proofs.Common.{ap, subst, ◌∙◌, sym}
use Rattle.std.proofs.lemmas.Result.{err_from_is_err_and}
use Rattle.c_syntax.specs.Declarations.{IsUnit}
use Rattle.c_checker_rules.specs.Told.{Tells}
use Rattle.c_checker_rules.specs.Units.{program_of, unit_faults}
use Rattle.c_reader.specs.Refusing.{Refuses}
use Rattle.c_syntax.specs.Units.{unit_tree}
use Rattle.c_texts.proofs.Wants.{read_wants, check_wants}
use Rattle.c_texts.proofs.accepting.accept.Goals as goal

pub returns-in_err-tokens-clause-only : goal.returns-in_err-tokens-clause-only
returns-in_err-tokens-clause-only c =
    let p = err_from_is_err_and c.from_residual.result c.from_residual.ensures.1 in
    λ u a. rw (p.1, p.2) (c.in_err-tokens.ensures.only a.tokens a.cut)

pub returns-in_err-unit-clause-only : goal.returns-in_err-unit-clause-only
returns-in_err-unit-clause-only c =
    let p = err_from_is_err_and c.from_residual-in_err-unit.result c.from_residual-in_err-unit.ensures.1 in
    λ u a.
    let same = c.as_slice.ensures.value ∙ c.in_ok-tokens.ensures.only a.tokens a.cut in
    let fault = c.in_err-unit.field-0.0 in
    rw (p.1, p.2) (read_wants fault a.tokens u (subst (Refuses fault) same c.in_err-unit.ensures.err) a.spelled a.low)

pub returns-in_err-program-clause-refused : goal.returns-in_err-program-clause-refused
returns-in_err-program-clause-refused c =
    let p = err_from_is_err_and c.from_residual-in_err-program.result c.from_residual-in_err-program.ensures.1 in
    let tree = unit_tree c.in_ok-unit.unit in
    rw (p.1, p.2) (record {
      tokens = c.in_ok-tokens.tokens.items;
      tree = tree;
      cut = c.in_ok-tokens.ensures.ok;
      spelled = subst (IsUnit tree) c.as_slice.ensures.value c.in_ok-unit.ensures.ok;
      low = c.in_ok-unit.ensures.low;
      told = c.in_err-program.ensures.err;
    })

pub returns-in_err-program-clause-only : goal.returns-in_err-program-clause-only
returns-in_err-program-clause-only c =
    let p = err_from_is_err_and c.from_residual-in_err-program.result c.from_residual-in_err-program.ensures.1 in
    λ u a.
    let same = c.as_slice.ensures.value ∙ c.in_ok-tokens.ensures.only a.tokens a.cut in
    let one = c.in_ok-unit.ensures.only u (subst (IsUnit u) (sym same) a.spelled) a.low in
    let fault = c.in_err-program.field-0.0 in
    rw (p.1, p.2) (check_wants fault (unit_faults u) a.well_formed (subst (λ t. Tells fault (unit_faults t)) one c.in_err-program.ensures.err))

pub returns-clause-accepted : goal.returns-clause-accepted
returns-clause-accepted c =
    let tree = unit_tree c.in_ok-unit.unit in (
      tree,
      record {
        tokens = c.in_ok-tokens.tokens.items;
        cut = c.in_ok-tokens.ensures.ok;
        spelled = subst (IsUnit tree) c.as_slice.ensures.value c.in_ok-unit.ensures.ok;
        low = c.in_ok-unit.ensures.low;
        well_formed = c.in_ok-program.ensures.ok;
      },
      c.in_ok-program.ensures.program,
    )

pub returns-clause-only : goal.returns-clause-only
returns-clause-only c =
    λ u a.
    let same = c.as_slice.ensures.value ∙ c.in_ok-tokens.ensures.only a.tokens a.cut in
    let one = c.in_ok-unit.ensures.only u (subst (IsUnit u) (sym same) a.spelled) a.low in
    c.in_ok-program.ensures.program ∙ ap program_of one
