-- What was written and is told is the command's answer.
use Rattle.std.proofs.Common.{inl, inr}
use Rattle.cfarm_library_verify.specs.Lines.{status_of}
use Rattle.cfarm_library_verify.specs.Told.{HasVerified, Printed}
use Rattle.cfarm_library_answers.specs.Outcomes.{Proven, verify_line}
use Rattle.cfarm_library_answers.proofs.Joined.{done_is, gives, gives_or, told_is}
use Rattle.cfarm_library_answers.proofs.looking.verify.Goals as goal

pub returns-in-Ok : goal.returns-in-Ok
returns-in-Ok c =
    let text = c.args.text.now in
    let program = c.args.program.now in
    let bundle = c.args.bundle.now in
    gives (Proven text program bundle) _ c.done.result 0 _
    (inl (done_is (HasVerified text program bundle) _ _ c.new-out.ensures.items c.in-Ok.ensures.verified)) c.done.ensures

pub returns-in-Err : goal.returns-in-Err
returns-in-Err c =
    let text = c.args.text.now in
    let program = c.args.program.now in
    let bundle = c.args.bundle.now in
    let fault = c.in-Err.fault in
    let told = told_is (Printed text program bundle fault) _ _ c.new-out.ensures.items c.in-Err.ensures.held (status_of fault) (verify_line fault) in
    gives_or (Proven text program bundle) _ c.told.result (status_of fault) _ _ c.status-status.ensures (inr (fault, c.in-Err.ensures.refused, told)) c.told.ensures
