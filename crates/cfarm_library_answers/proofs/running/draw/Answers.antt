-- What was written and is told is the command's answer.
use Rattle.std.proofs.Common.{inl, inr}
use Rattle.cfarm_sim.specs.Lines.{schedule_line, status_of}
use Rattle.cfarm_sim_svg.specs.Drawn.{IsDrawn, IsUndrawn}
use Rattle.cfarm_library_answers.specs.Outcomes.{Drawn}
use Rattle.cfarm_library_answers.proofs.Joined.{done_is, gives, gives_or, told_is}
use Rattle.cfarm_library_answers.proofs.running.draw.Goals as goal

pub returns-in-Ok : goal.returns-in-Ok
returns-in-Ok c =
    let schedule = c.args.schedule.now in
    gives (Drawn schedule) _ c.done.result 0 _ (inl (done_is (IsDrawn schedule) _ _ c.new-out.ensures.items c.in-Ok.ensures.drawn)) c.done.ensures

pub returns-in-Err : goal.returns-in-Err
returns-in-Err c =
    let schedule = c.args.schedule.now in
    let fault = c.in-Err.fault in
    let told = told_is (IsUndrawn schedule fault) _ _ c.new-out.ensures.items c.in-Err.ensures.undrawn (status_of fault) (schedule_line fault) in
    gives_or (Drawn schedule) _ c.told.result (status_of fault) _ _ c.status.ensures (inr (fault, told)) c.told.ensures
