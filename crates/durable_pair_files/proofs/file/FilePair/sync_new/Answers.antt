-- Why `sync_new` meets its clauses `honest`, `time`, `unchanged` and `durable`.
use Rattle.std.proofs.Common.{[]}
use Rattle.durable_model_writes.specs.declared.call.Call.TheVariants.{Synced, Left}
use Rattle.durable_pair.proofs.Results.{on_ok, either_way}
use Rattle.durable_pair_files.proofs.AsFileDisk.{file_honest, file_time, file_left_unchanged, file_synced_unchanged, file_synced_only}
use Rattle.durable_pair_files.proofs.file.FilePair.sync_new.Goals as goal

pub returns-clause-honest : goal.returns-clause-honest
returns-clause-honest c =
    let old = c.args.self.now in
    either_way c.sync_file.result c.sync_file.ensures.done (λ does. file_honest old _ Synced [] does)
    c.sync_file.ensures.left (λ does. file_honest old _ Left [] does)

pub returns-clause-time : goal.returns-clause-time
returns-clause-time c =
    let old = c.args.self.now in
    either_way c.sync_file.result c.sync_file.ensures.done (λ does. file_time old _ Synced [] does)
    c.sync_file.ensures.left (λ does. file_time old _ Left [] does)

pub returns-clause-unchanged : goal.returns-clause-unchanged
returns-clause-unchanged c =
    let old = c.args.self.now in
    either_way c.sync_file.result c.sync_file.ensures.done (λ does. file_synced_unchanged old _ does)
    c.sync_file.ensures.left (λ does. file_left_unchanged old _ does)

pub returns-clause-durable : goal.returns-clause-durable
returns-clause-durable c spent = on_ok c.sync_file.result c.sync_file.ensures.done (λ does. file_synced_only c.args.self.now _ does spent)
