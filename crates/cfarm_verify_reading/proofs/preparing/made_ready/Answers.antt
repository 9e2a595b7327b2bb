-- The text is accepted, and its functions have C names; what they are translated to is shared.
use Rattle.std.proofs.Common.{sym, subst, ◌∙◌}
use Rattle.lang.specs.Form.{IsProgram}
use Rattle.lang_base.specs.Keeps.{Keeps}
use Rattle.c_program.specs.Meaning.{crun}
use Rattle.c_checker_rules.specs.Checked.{program_tree}
use Rattle.cminor_program_ranges.specs.Names.{HaveNames}
use Rattle.rtl_language.specs.Function.{IsFunction}
use Rattle.rtl_language.specs.Meaning.{run}
use Rattle.cfarm_verify_reading.proofs.preparing.made_ready.Goals as goal

pub made_beside-requires-clause-names : goal.made_beside-requires-clause-names
made_beside-requires-clause-names g c κs lives =
    let it = c.in-Ok.ensures.accepted in
    subst HaveNames (sym it.2) (c.accepted_has_names.ensures c.args.text.now it.1.tokens it.0 it.1.cut it.1.spelled)

pub returns-in-Ok-shared-clause-begun : goal.returns-in-Ok-shared-clause-begun
returns-in-Ok-shared-clause-begun g c =
    let is = c.in-Ok-shared.ensures in
    let made = c.in-Ok-made_beside.ensures in
    record {
      accepted = c.in-Ok.ensures.accepted;
      translated = is ∙ made.same;
      keeps = subst (λ b. Keeps (crun (program_tree c.in-Ok.program)) (run b)) (sym is) made.keeps;
      fits = subst (λ b. IsProgram IsFunction b) (sym is) made.fits;
      only = c.in-Ok.ensures.only;
    }
