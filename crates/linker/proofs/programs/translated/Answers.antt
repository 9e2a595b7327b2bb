-- The lowering and the translation, one behind the other.
use Rattle.std.proofs.Common.{ap, ◌∙◌}
use Rattle.c_checker_rules.specs.Checked.{program_tree}
use Rattle.cminor_lowering.specs.Programs.{low}
use Rattle.rtlgen_definition.specs.Gen.{gen}
use Rattle.linker.specs.Chains.{names_of}
use Rattle.linker.proofs.Steps.{names_translated}
use Rattle.linker.proofs.programs.translated.Goals as goal

pub returns-clause-keeps : goal.returns-clause-keeps
returns-clause-keeps c = c.keeps_composes.ensures _ _ _ c.in_ok-lowered.ensures.keeps c.in_ok-begun.ensures.keeps

pub returns-clause-same_names : goal.returns-clause-same_names
returns-clause-same_names c =
    ap (λ p. names_of p.functions) (c.in_ok-begun.ensures.same ∙ ap gen c.in_ok-lowered.ensures.same)
    ∙ names_translated (low (program_tree c.args.program.now)).functions
