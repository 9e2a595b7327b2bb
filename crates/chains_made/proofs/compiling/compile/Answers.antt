-- The translation and the linking, one behind the other; where the program is translated, only memory can be refused.
use Rattle.std.proofs.Common.{◌≤◌, ap, sym, subst, ◌∙◌}
use Rattle.std.specs.Prelude.{All}
use Rattle.std.proofs.lemmas.Result.{err_from_is_err_and}
use Rattle.c_checker_rules.specs.Checked.{program_tree}
use Rattle.cminor_lowering.specs.Programs.{low}
use Rattle.chains.specs.Offered.{AllGoOn, linked_offers}
use Rattle.chains_made.specs.declared.errors.CompileError.TheVariants.{Link}
use Rattle.chains_made.proofs.Memory.{memory_refused}
use Rattle.chains_made.proofs.compiling.compile.Goals as goal

pub returns-clause-keeps : goal.returns-clause-keeps
returns-clause-keeps c = c.keeps_composes.ensures _ _ _ c.in_ok-begun.ensures.keeps c.in_ok-made.ensures.keeps

pub returns-clause-same_names : goal.returns-clause-same_names
returns-clause-same_names c = c.in_ok-made.ensures.same_names ∙ c.in_ok-begun.ensures.same_names

pub returns-in_err-offers-clause-refused : goal.returns-in_err-offers-clause-refused
returns-in_err-offers-clause-refused c =
    let small = subst (λ fs. All (λ f. f.function.registers ≤ 2048) fs) (sym c.as_slice.ensures) c.in_ok-begun.ensures.small in
    let p = err_from_is_err_and c.from_residual-in_err-offers.result c.from_residual-in_err-offers.ensures.1 in
    rw (p.1, p.2) (memory_refused (low (program_tree c.args.program.now)) c.in_err-offers.field-0.0 (c.in_err-offers.ensures.refused small))

pub returns-in_err-made-clause-refused : goal.returns-in_err-made-clause-refused
returns-in_err-made-clause-refused c =
    let begun = subst (λ fs. AllGoOn fs c.in_ok-offers.offers.items) c.as_slice.ensures c.in_ok-offers.ensures.chained in
    let all = subst (λ os. AllGoOn c.in_ok-begun.begun.functions os) (sym c.deref.ensures.value) begun in
    let p = err_from_is_err_and c.from_residual-in_err-made.result c.from_residual-in_err-made.ensures.1 in
    rw (p.1, p.2) (memory_refused (low (program_tree c.args.program.now)) (Link c.in_err-made.field-0.0) (c.in_err-made.ensures.whole all))

pub returns-clause-is : goal.returns-clause-is
returns-clause-is c =
    let same = c.in_ok-begun.ensures.same in
    let offers = c.in_ok-offers.offers.items in
    record {
      offers = offers;
      chained = subst (λ fs. AllGoOn fs offers) (c.as_slice.ensures ∙ ap (λ p. p.functions) same) c.in_ok-offers.ensures.chained;
      accepted = c.in_ok-offers.ensures.accepted;
      is = c.in_ok-made.ensures.ok ∙ ap (λ os. linked_offers c.in_ok-begun.begun os) c.deref.ensures.value ∙ ap (λ p. linked_offers p offers) same;
      counted = c.in_ok-offers.ensures.counted;
    }

pub returns-clause-baselines : goal.returns-clause-baselines
returns-clause-baselines c = λ none.
    let same = c.in_ok-begun.ensures.same in
    let offers = c.in_ok-offers.offers.items in
    record {
      offers = offers;
      chained = subst (λ fs. AllGoOn fs offers) (c.as_slice.ensures ∙ ap (λ p. p.functions) same) c.in_ok-offers.ensures.chained;
      baselines = c.in_ok-offers.ensures.alone none;
      is = c.in_ok-made.ensures.ok ∙ ap (λ os. linked_offers c.in_ok-begun.begun os) c.deref.ensures.value ∙ ap (λ p. linked_offers p offers) same;
    }

pub returns-clause-spelled : goal.returns-clause-spelled
returns-clause-spelled c = λ names.
    let same = c.in_ok-begun.ensures.same in
    c.same_head_fits.ensures (record {
      globals = ap (λ p. p.globals) c.in_ok-made.ensures.ok ∙ ap (λ p. p.globals) same;
      names = c.in_ok-made.ensures.same_names ∙ c.in_ok-begun.ensures.same_names;
    }) names
