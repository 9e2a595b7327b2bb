-- The steps one behind the other.
use Rattle.std.proofs.Common.{sym, ap, subst, ◌∙◌}
use Rattle.std.proofs.lemmas.Result.{err_from_is_err_and}
use Rattle.c_checker_rules.specs.Checked.{program_tree}
use Rattle.cminor_lowering.specs.Programs.{low}
use Rattle.rtlgen_definition.specs.Gen.{gen}
use Rattle.linker.specs.Chains.{names_of, AllChained}
use Rattle.linker.specs.Refused.{HasNoTranslation}
use Rattle.linker.proofs.Steps.{names_translated, refused_along, few_translate, untranslated}
use Rattle.linker.proofs.programs.link.Goals as goal

pub returns-in_err-made-clause-refused : goal.returns-in_err-made-clause-refused
returns-in_err-made-clause-refused c =
    let p = err_from_is_err_and c.from_residual-in_err-made.result c.from_residual-in_err-made.ensures.1 in
    let same = c.in_ok-translated.ensures.same ∙ ap gen c.in_ok-lowered.ensures.same in
    rw (p.1, p.2) (refused_along (low (program_tree c.args.program.now)) c.in_ok-translated.translated c.args.named.now c.in_err-made.field-0.0 same c.in_err-made.ensures.refused)

pub returns-clause-same_names : goal.returns-clause-same_names
returns-clause-same_names c =
    c.in_ok-made.ensures.same_names
    ∙ ap (λ p. names_of p.functions) (c.in_ok-translated.ensures.same ∙ ap gen c.in_ok-lowered.ensures.same)
    ∙ names_translated (low (program_tree c.args.program.now)).functions

pub returns-clause-keeps : goal.returns-clause-keeps
returns-clause-keeps c =
    c.keeps_composes.ensures _ _ _ c.in_ok-lowered.ensures.keeps (c.keeps_composes.ensures _ _ _ c.in_ok-translated.ensures.keeps c.in_ok-made.ensures.keeps)

pub returns-in_err-translated-clause-whole : goal.returns-in_err-translated-clause-whole
returns-in_err-translated-clause-whole c = λ names few chained.
    let told = subst (λ p. HasNoTranslation p c.in_err-translated.field-0.0) c.in_ok-lowered.ensures.same c.in_err-translated.ensures.refused in
    let p = err_from_is_err_and c.from_residual-in_err-translated.result c.from_residual-in_err-translated.ensures.1 in
    rw (p.1, p.2) (few_translate (low (program_tree c.args.program.now)) c.in_err-translated.field-0.0 few told)

pub returns-in_err-translated-clause-refused : goal.returns-in_err-translated-clause-refused
returns-in_err-translated-clause-refused c =
    let told = subst (λ p. HasNoTranslation p c.in_err-translated.field-0.0) c.in_ok-lowered.ensures.same c.in_err-translated.ensures.refused in
    let p = err_from_is_err_and c.from_residual-in_err-translated.result c.from_residual-in_err-translated.ensures.1 in
    rw (p.1, p.2) (untranslated (low (program_tree c.args.program.now)) c.args.named.now c.in_err-translated.field-0.0 told)

pub returns-in_err-made-clause-whole : goal.returns-in_err-made-clause-whole
returns-in_err-made-clause-whole c = λ names few chained.
    let same = c.in_ok-translated.ensures.same ∙ ap gen c.in_ok-lowered.ensures.same in
    let names_are = names ∙ sym (names_translated (low (program_tree c.args.program.now)).functions) ∙ sym (ap (λ p. names_of p.functions) same) in
    let chains_are = subst (λ p. AllChained p.functions c.args.named.now) (sym same) chained in
    let p = err_from_is_err_and c.from_residual-in_err-made.result c.from_residual-in_err-made.ensures.1 in
    rw (p.1, p.2) (c.in_err-made.ensures.whole names_are chains_are)

pub returns-clause-spelled : goal.returns-clause-spelled
returns-clause-spelled c = λ names.
    let same = c.in_ok-translated.ensures.same ∙ ap gen c.in_ok-lowered.ensures.same in
    c.same_head_fits.ensures (record {
      globals = ap (λ p. p.globals) c.in_ok-made.ensures.ok ∙ ap (λ p. p.globals) same;
      names = c.in_ok-made.ensures.same_names ∙ ap (λ p. names_of p.functions) same ∙ names_translated (low (program_tree c.args.program.now)).functions;
    }) names
