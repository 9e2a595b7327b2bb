-- Each function is in range, and what is made of them keeps the meaning, and has the names.
use Rattle.std.proofs.Common.{map, sym, ap, subst, ◌∙◌}
use Rattle.std.proofs.lemmas.List.Elements.{All-from_recursion}
use Rattle.lang_base.specs.Keeps.{Keeps}
use Rattle.c_program.specs.Meaning.{crun}
use Rattle.c_checker_rules.specs.Checked.{program_tree}
use Rattle.cminor_syntax.specs.Fits.{IsFunction}
use Rattle.cminor_lowering.specs.Programs.{low}
use Rattle.rtl_language.specs.Meaning.{run}
use Rattle.cminor.proofs.InRange.{each_in_range}
use Rattle.cfarm_verify_reading.proofs.Made.{made_names}
use Rattle.cfarm_verify_reading.proofs.programs.translated.Goals as goal

pub made_whole-requires-clause-functions : goal.made_whole-requires-clause-functions
made_whole-requires-clause-functions g c κs within = each_in_range c.args.program.now.functions c.lowered_fits.ensures.fits

pub returns-in-Some-clause-keeps : goal.returns-in-Some-clause-keeps
returns-in-Some-clause-keeps g c =
    let tree = program_tree c.args.program.now in
    let fit = All-from_recursion (λ f. IsFunction f.function) (low tree).functions c.lowered_fits.ensures.fits in
    let keeps = c.keeps_composes.ensures _ _ _ c.lowered_keeps.ensures (c.generated_keeps.ensures (low tree) fit) in
    subst (λ b. Keeps (crun tree) (run b)) (sym c.in-Some.ensures) keeps

pub returns-in-Some-clause-fits : goal.returns-in-Some-clause-fits
returns-in-Some-clause-fits g c = λ names.
    let same = c.in-Some.ensures in
    c.same_head_fits.ensures (record {
      globals = ap (λ p. p.globals) same;
      names = ap (λ p. map (λ f. f.name) p.functions) same ∙ made_names c.args.program.now.functions;
    }) names
