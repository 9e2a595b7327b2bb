-- The functions of an accepted text have C names, which the lowering and the translation keep.
use Rattle.std.proofs.Common.{map, sym, ap, subst, ◌∙◌}
use Rattle.cminor_program_ranges.specs.Names.{HaveNames}
use Rattle.farm_nodes_source.proofs.Numbered.{lowered_names, translated_names}
use Rattle.farm_nodes_source.proofs.preparing.prepare.Goals as goal

pub translated-requires : goal.translated-requires
translated-requires c =
    let it = c.in-Ok.ensures.accepted in
    subst HaveNames (sym it.2) (c.accepted_has_names.ensures c.args.text.now it.1.tokens it.0 it.1.cut it.1.spelled)

pub returns-in-Ok-shared-clause-names : goal.returns-in-Ok-shared-clause-names
returns-in-Ok-shared-clause-names c =
    let it = c.in-Ok.ensures.accepted in
    subst HaveNames (sym it.2) (c.accepted_has_names.ensures c.args.text.now it.1.tokens it.0 it.1.cut it.1.spelled)

pub returns-in-Ok-shared-clause-same_names : goal.returns-in-Ok-shared-clause-same_names
returns-in-Ok-shared-clause-same_names c =
    let fs = c.in-Ok.program.functions in
    ap (λ p. map (λ f. f.name) p.functions) (c.in-Ok-shared.ensures ∙ c.in-Ok-translated.ensures.same) ∙ translated_names fs ∙ lowered_names fs
