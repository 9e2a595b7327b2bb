-- What was written and is told is the command's answer.
use Rattle.std.proofs.Common.{inl, inr}
use Rattle.cfarm_run.specs.TextLines.{error_line}
use Rattle.cfarm_run.specs.TextStatuses.{status_of_error}
use Rattle.cfarm_run.specs.TextTold.{HasCounted, Printed}
use Rattle.cfarm_library_answers.specs.Outcomes.{Checked}
use Rattle.cfarm_library_answers.proofs.Joined.{done_is, gives, gives_or, told_is}
use Rattle.cfarm_library_answers.proofs.running.check.Goals as goal

pub returns-in-Ok : goal.returns-in-Ok
returns-in-Ok c =
    let text = c.args.text.now in
    gives (Checked text) _ c.done.result 0 _ (inl (done_is (HasCounted text) _ _ c.new-out.ensures.items c.in-Ok.ensures.accepted)) c.done.ensures

pub returns-in-Err : goal.returns-in-Err
returns-in-Err c =
    let text = c.args.text.now in
    let fault = c.in-Err.fault in
    let told = told_is (Printed text fault) _ _ c.new-out.ensures.items c.in-Err.ensures.printed (status_of_error fault) (error_line fault) in
    gives_or (Checked text) _ c.told.result (status_of_error fault) _ _ c.status.ensures (inr (fault, c.in-Err.ensures.refused, told)) c.told.ensures
