-- Why `tell_placed` meets its clause `told`.
use Rattle.std.specs.Prelude.{false, codes}
use Rattle.std.proofs.Common.{refl, subst, sym}
use Rattle.cfarm_hints.specs.Faults.{IsHintOfFault}
use Rattle.cfarm_run.specs.TextLines.{gcc_line}
use Rattle.cfarm_program_status.proofs.Answering.{among}
use Rattle.cfarm_program_status.specs.Telling.{told}
use Rattle.cfarm_run.specs.TextStatuses.{status_of_error}
use Rattle.cfarm_program_runs.proofs.doing.tell_placed.Goals as goal

pub returns-clause-told : goal.returns-clause-told
returns-clause-told g c =
    let line = gcc_line c.args.path.now c.args.text.now c.args.fault c.as_str.result.now in
    let hint = subst (IsHintOfFault c.args.text.now c.args.fault) (sym c.as_str.ensures.value) c.hint_of-said.ensures in
    let answer = told (status_of_error c.args.fault) line in
    (answer, (c.as_str.result.now, hint, refl), among false false (codes "") _ _ line _ _ _ c.status.ensures (λ unseen. refl) (λ unseen. refl) (c.tell_among.ensures.told line refl))
