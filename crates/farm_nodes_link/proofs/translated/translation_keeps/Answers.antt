-- The lowering and the translation, one behind the other.
use Rattle.std.proofs.lemmas.List.Elements.{All-from_recursion}
use Rattle.c_checker_rules.specs.Checked.{program_tree}
use Rattle.cminor_lowering.specs.Programs.{low}
use Rattle.cminor_syntax.specs.Fits.{IsFunction}
use Rattle.farm_nodes_link.proofs.translated.translation_keeps.Goals as goal

pub returns : goal.returns
returns c =
    let lowered = low (program_tree c.args.program.now) in
    let fit = All-from_recursion (λ f. IsFunction f.function) lowered.functions c.lowered_fits.ensures.fits in
    c.keeps_composes.ensures _ _ _ c.lowered_keeps.ensures (c.generated_keeps.ensures lowered fit)
