-- What was written and is told is the command's answer.
use Rattle.std.proofs.Common.{inl, inr, subst}
use Rattle.cfarm_run.specs.Closings.{closing_line}
use Rattle.cfarm_run.specs.TextLines.{error_line}
use Rattle.cfarm_run.specs.TextStatuses.{status_of_error, status_of_shown}
use Rattle.cfarm_run.specs.TextTold.{HasRun, Ran}
use Rattle.cfarm_library_answers.specs.Answered.{Gives}
use Rattle.cfarm_library_answers.specs.Outcomes.{Interpreted}
use Rattle.cfarm_library_answers.proofs.Joined.{gives_or, told_is}
use Rattle.cfarm_library_answers.proofs.running.interpret.Goals as goal

pub returns-in-Ok : goal.returns-in-Ok
returns-in-Ok c =
    let text = c.args.text.now in
    let depth = c.from.result in
    let shown = c.in-Ok.shown in
    let told = told_is (HasRun text depth shown) _ _ c.unseen-out.ensures c.in-Ok.ensures.ran (status_of_shown shown) (closing_line shown) in
    subst (λ d. Gives (Interpreted text d) c.told.result) c.from.ensures
    (gives_or (Interpreted text depth) _ c.told.result (status_of_shown shown) _ _ c.status_of.ensures (inl (shown, told)) c.told.ensures)

pub returns-in-Err : goal.returns-in-Err
returns-in-Err c =
    let text = c.args.text.now in
    let depth = c.from.result in
    let fault = c.in-Err.fault in
    let told = told_is (Ran text depth fault) _ _ c.unseen-out.ensures c.in-Err.ensures.beginning (status_of_error fault) (error_line fault) in
    subst (λ d. Gives (Interpreted text d) c.told-in-Err.result) c.from.ensures
    (gives_or (Interpreted text depth) _ c.told-in-Err.result (status_of_error fault) _ _ c.status.ensures (inr (fault, c.in-Err.ensures.refused, told)) c.told-in-Err.ensures)
