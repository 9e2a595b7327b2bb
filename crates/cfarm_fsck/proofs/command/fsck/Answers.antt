-- What is told of a folder.
use Rattle.cfarm_fsck.proofs.Opened.{kept_bytes, told_or_refused}
use Rattle.cfarm_fsck.proofs.command.fsck.Goals as goal

pub returns-in-Err : goal.returns-in-Err
returns-in-Err g c = (c.in-Err.ensures.refused, kept_bytes (g.W.Write.contents c.args.out.now))

pub returns : goal.returns
returns g c =
    told_or_refused c.args.quorums c.args.digest.now c.args.program.now c.args.files.now c.in-Ok.found.0.items c.in-Ok.found.1.items c.in-Ok.ensures.opens
    (g.W.Write.contents c.args.out.now) (g.W.Write.contents c.tell_opened.new.out) c.tell_opened.result
    (rw (c.as_slice.ensures, c.accept.ensures, c.as_slice-2.ensures.value, c.as_slice-3.ensures.value) at c.tell_opened.ensures)
