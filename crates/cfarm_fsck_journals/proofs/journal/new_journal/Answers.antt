-- The closed gate stands within the bytes.
use Rattle.std.proofs.Common.{arith}
use Rattle.cfarm_fsck_journals.proofs.ReadFiles.{gate_within}
use Rattle.cfarm_fsck_journals.proofs.journal.new_journal.Goals as goal

pub overflow_add-size : goal.overflow_add-size
overflow_add-size c = omega (arith, c.in-Ok.ensures.gate, gate_within c.args.header.now c.in-Ok.found.records.items c.args.bytes.now c.in-Ok.ensures.ok)
