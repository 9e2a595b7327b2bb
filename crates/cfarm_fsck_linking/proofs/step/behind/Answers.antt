-- The parts of the text go on.
use Rattle.std.proofs.Common.{option_copied}
use Rattle.cfarm_fsck_linking.proofs.Steps.{is_behind}
use Rattle.cfarm_fsck_linking.proofs.step.behind.Goals as goal

pub returns-in-Some-end_of : goal.returns-in-Some-end_of
returns-in-Some-end_of g c =
    let read = c.in-Ok.ensures in
    let end = c.in-Some-end_of.ensures in
    rw c.in-Some.is
    (is_behind g.P.In.Language g.P.Out.Language g.P.Pass (option_copied c.args.start) c.in-Some.text.now c.in-Ok.parts read.fits read.spelled read.only c.in-Some-end_of.end end.0 end.1)
