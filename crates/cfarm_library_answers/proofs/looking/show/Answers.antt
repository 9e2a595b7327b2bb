-- What was written and is told is the command's answer.
use Rattle.std.proofs.Common.{inl, inr}
use Rattle.text_files.specs.Files.{HasNotShown, HasShown}
use Rattle.text_files.specs.Lines.{show_line}
use Rattle.text_files.specs.Statuses.{status_of}
use Rattle.cfarm_library_answers.specs.Outcomes.{Texted}
use Rattle.cfarm_library_answers.proofs.Joined.{done_is, gives, gives_or, told_is}
use Rattle.cfarm_library_answers.proofs.looking.show.Goals as goal

pub returns-in-Ok : goal.returns-in-Ok
returns-in-Ok c =
    let program = c.args.program.now in
    gives (Texted program) _ c.done.result 0 _ (inl (done_is (HasShown program) _ _ c.new-out.ensures.items c.in-Ok.ensures.shown)) c.done.ensures

pub returns-in-Err : goal.returns-in-Err
returns-in-Err c =
    let program = c.args.program.now in
    let fault = c.in-Err.fault in
    let told = told_is (HasNotShown program fault) _ _ c.new-out.ensures.items c.in-Err.ensures.refused (status_of fault) (show_line fault) in
    gives_or (Texted program) _ c.told.result (status_of fault) _ _ c.status.ensures (inr (fault, told)) c.told.ensures
