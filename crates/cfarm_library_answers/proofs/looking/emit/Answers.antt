-- What was written and is told is the command's answer.
use Rattle.std.proofs.Common.{inl, inr}
use Rattle.cfarm_emit.specs.Lines.{emit_line, status_of}
use Rattle.cfarm_emit.specs.Told.{HasEmitted, Printed}
use Rattle.cfarm_library_answers.specs.Outcomes.{Formed}
use Rattle.cfarm_library_answers.proofs.Joined.{done_is, gives, gives_or, told_is}
use Rattle.cfarm_library_answers.proofs.looking.emit.Goals as goal

pub returns-in-Ok : goal.returns-in-Ok
returns-in-Ok c =
    let text = c.args.text.now in
    gives (Formed text c.args.form c.args.seed) _ c.done.result 0 _
    (inl (done_is (HasEmitted text c.args.form c.args.seed) _ _ c.new-out.ensures.items c.in-Ok.ensures.emitted)) c.done.ensures

pub returns-in-Err : goal.returns-in-Err
returns-in-Err c =
    let text = c.args.text.now in
    let fault = c.in-Err.fault in
    let told = told_is (Printed text c.args.form c.args.seed fault) _ _ c.new-out.ensures.items c.in-Err.ensures.printed (status_of fault) (emit_line fault) in
    gives_or (Formed text c.args.form c.args.seed) _ c.told.result (status_of fault) _ _ c.status-status.ensures (inr (fault, c.in-Err.ensures.refused, told)) c.told.ensures
