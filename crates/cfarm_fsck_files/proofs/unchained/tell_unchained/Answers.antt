-- Why `tell_unchained` meets its clause `told` where there is memory.
use Rattle.std.proofs.Common.{◌∙◌}
use Rattle.std.specs.String.{string_bytes}
use Rattle.cfarm_fsck_files.proofs.Unlinked.{said_named}
use Rattle.cfarm_fsck_files.proofs.unchained.tell_unchained.Goals as goal

pub returns-in-Ok-push_fault-clause-told : goal.returns-in-Ok-push_fault-clause-told
returns-in-Ok-push_fault-clause-told g c =
    said_named c.args.source.now (string_bytes c.args.lines) c.tell.result (g.E.ErrorLines.contents c.args.err.now) (g.E.ErrorLines.contents c.tell.new.err) c.args.function
    c.in-Ok.name c.as_str.result.now c.status.result c.in-Ok.ensures (c.as_str.ensures.value ∙ c.in-Ok-push_fault.ensures) c.status.ensures c.tell.ensures.told
