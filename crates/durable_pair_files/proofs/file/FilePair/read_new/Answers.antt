-- Why `read_new` meets its clauses `does`, `honest`, `unchanged` and `time`.
use Rattle.std.proofs.Common.{[], ap}
use Rattle.durable_model_writes.specs.declared.call.Call.TheVariants.{Left}
use Rattle.durable_pair_files.proofs.Lifted.{new_stays}
use Rattle.durable_pair_held.specs.Held.{past_of}
use Rattle.durable_pair_files.proofs.AsFileDisk.{file_honest, file_time, file_left_unchanged}
use Rattle.durable_pair_files.proofs.file.FilePair.read_new.Goals as goal

pub returns-clause-does : goal.returns-clause-does
returns-clause-does c = new_stays c.args.self.now _ (ap past_of c.read_file.ensures.held)

pub returns-clause-honest : goal.returns-clause-honest
returns-clause-honest c = file_honest c.args.self.now _ Left [] (returns-clause-does c)

pub returns-clause-unchanged : goal.returns-clause-unchanged
returns-clause-unchanged c = file_left_unchanged c.args.self.now _ (returns-clause-does c)

pub returns-clause-time : goal.returns-clause-time
returns-clause-time c = file_time c.args.self.now _ Left [] (returns-clause-does c)
