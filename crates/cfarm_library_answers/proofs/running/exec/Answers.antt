-- What was written and is told is the command's answer.
use Rattle.std.proofs.Common.{inl, inr}
use Rattle.cfarm_run.specs.Closings.{closing_line}
use Rattle.cfarm_run.specs.ExecLines.{exec_line}
use Rattle.cfarm_run.specs.ExecStatuses.{status_of}
use Rattle.cfarm_run.specs.ExecTold.{HasRun, Ran}
use Rattle.cfarm_run.specs.TextStatuses.{status_where}
use Rattle.cfarm_library_answers.specs.Outcomes.{Executed}
use Rattle.cfarm_library_answers.proofs.Joined.{gives_or, told_is}
use Rattle.cfarm_library_answers.proofs.running.exec.Goals as goal

pub returns-in-Ok : goal.returns-in-Ok
returns-in-Ok c =
    let bytes = c.args.program.now in
    let limit = c.args.limit in
    let shown = c.in-Ok.shown in
    let ended = status_where shown c.args.expected in
    let told = told_is (HasRun bytes limit shown) _ _ c.unseen-out.ensures c.in-Ok.ensures.ran ended (closing_line shown) in
    gives_or (Executed bytes limit c.args.expected) _ c.told.result ended _ _ c.status_where.ensures (inl (shown, told)) c.told.ensures

pub returns-in-Err : goal.returns-in-Err
returns-in-Err c =
    let bytes = c.args.program.now in
    let limit = c.args.limit in
    let fault = c.in-Err.fault in
    let told = told_is (Ran bytes limit fault) _ _ c.unseen-out.ensures c.in-Err.ensures.beginning (status_of fault) (exec_line fault) in
    gives_or (Executed bytes limit c.args.expected) _ c.told-in-Err.result (status_of fault) _ _ c.status.ensures (inr (fault, c.in-Err.ensures.refused, told)) c.told-in-Err.ensures
