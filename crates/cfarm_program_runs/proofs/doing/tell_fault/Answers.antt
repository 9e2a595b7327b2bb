-- Why `tell_fault` meets its clause `told`.
use Rattle.std.specs.Prelude.{false}
use Rattle.std.proofs.Common.{refl, ◌∙◌}
use Rattle.cfarm_run.specs.TextLines.{error_line}
use Rattle.cfarm_program_status.proofs.Answering.{among}
use Rattle.cfarm_program_runs.proofs.doing.tell_fault.Goals as goal

pub returns-clause-told : goal.returns-clause-told
returns-clause-told g c =
    let line = error_line c.args.fault in
    among c.args.is_seen false _ _ _ line _ _ _ c.status.ensures (λ unseen. refl) (λ unseen. c.as_str.ensures.value ∙ c.of_text-behind.ensures unseen) (c.tell_among.ensures.told line refl)
