-- Why `tell_error` meets its clause `told`.
use Rattle.std.proofs.Common.{codes, refl}
use Rattle.std.specs.String.{string_bytes}
use Rattle.cfarm_fsck_files.proofs.Unlinked.{said_disks, said_no_memory, said_unwritten}
use Rattle.cfarm_fsck_files.proofs.looking.tell_error.Goals as goal

pub returns-in-Disks-clause-told : goal.returns-in-Disks-clause-told
returns-in-Disks-clause-told g c =
    rw c.in-Disks.is
    (said_disks c.args.source.now (string_bytes c.args.lines) c.tell_build.result (g.E.ErrorLines.contents c.args.err.now) (g.E.ErrorLines.contents c.tell_build.new.err)
    c.in-Disks.fault c.tell_build.ensures.told)

pub returns-in-NoMemory-clause-told : goal.returns-in-NoMemory-clause-told
returns-in-NoMemory-clause-told g c =
    rw c.in-NoMemory.is
    (said_no_memory c.args.source.now (string_bytes c.args.lines) c.tell_no_memory.result (g.E.ErrorLines.contents c.args.err.now)
    (g.E.ErrorLines.contents c.tell_no_memory.new.err) c.tell_no_memory.ensures.told)

pub returns-in-Write-clause-told : goal.returns-in-Write-clause-told
returns-in-Write-clause-told g c =
    rw c.in-Write.is
    (said_unwritten c.args.source.now (string_bytes c.args.lines) c.tell.result (g.E.ErrorLines.contents c.args.err.now) (g.E.ErrorLines.contents c.tell.new.err)
    (c.tell.ensures.told (codes "write 701") refl))
