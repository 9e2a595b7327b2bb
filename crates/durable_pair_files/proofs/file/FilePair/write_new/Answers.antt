-- Why `write_new` meets its clauses `honest`, `time`, `written`, `others` and 2 more.
use Rattle.std.proofs.Common.{[], length, sym, subst}
use Rattle.durable_model_writes.specs.declared.call.Call.TheVariants.{Wrote, Tore, Left}
use Rattle.durable_model_writes.specs.Writes.{Torn, torn_nothing, torn_overwritten}
use Rattle.durable_pair.proofs.Results.{on_ok, each_way}
use Rattle.durable_pair_files.specs.OnFiles.{seen_in_file}
use Rattle.durable_pair_files.proofs.AsFileDisk.{file_honest, file_time, file_left_unchanged, file_wrote_follows, file_tore_follows, file_left_follows}
use Rattle.durable_pair_files.proofs.file.FilePair.write_new.Goals as goal

pub returns-clause-honest : goal.returns-clause-honest
returns-clause-honest c =
    let old = c.args.self.now in
    let n = length c.args.bytes.now in
    each_way c.write_file.result c.write_file.ensures.done
    (λ does. file_honest old _ (Wrote c.args.at n) c.args.bytes.now does)
    (λ device. file_honest old _ (Tore c.args.at n) [] (c.write_file.ensures.tore device))
    (λ memory. file_honest old _ Left [] (c.write_file.ensures.left memory))

pub returns-clause-time : goal.returns-clause-time
returns-clause-time c =
    let old = c.args.self.now in
    let n = length c.args.bytes.now in
    each_way c.write_file.result c.write_file.ensures.done
    (λ does. file_time old _ (Wrote c.args.at n) c.args.bytes.now does)
    (λ device. file_time old _ (Tore c.args.at n) [] (c.write_file.ensures.tore device))
    (λ memory. file_time old _ Left [] (c.write_file.ensures.left memory))

pub returns-clause-written : goal.returns-clause-written
returns-clause-written c = on_ok c.write_file.result c.write_file.ensures.done (λ does. does.sees)

pub returns-clause-others : goal.returns-clause-others
returns-clause-others c =
    let seen = seen_in_file c.args.self.now in
    let bytes = c.args.bytes.now in
    each_way c.write_file.result c.write_file.ensures.done
    (λ does. subst (Torn c.args.at (length bytes) seen) (sym does.sees) (torn_overwritten seen c.args.at bytes))
    (λ device. (c.write_file.ensures.tore device).sees)
    (λ memory. subst (Torn c.args.at (length bytes) seen) (sym (c.write_file.ensures.left memory).sees) (torn_nothing seen c.args.at (length bytes)))

pub returns-clause-crash : goal.returns-clause-crash
returns-clause-crash c spent =
    let old = c.args.self.now in
    let n = length c.args.bytes.now in
    each_way c.write_file.result c.write_file.ensures.done
    (λ does. file_wrote_follows old _ c.args.at c.args.bytes.now does spent)
    (λ device. file_tore_follows old _ c.args.at n (c.write_file.ensures.tore device) spent)
    (λ memory. file_left_follows old _ c.args.at n (c.write_file.ensures.left memory) spent)

pub returns-clause-unwritten : goal.returns-clause-unwritten
returns-clause-unwritten c memory = file_left_unchanged c.args.self.now _ (c.write_file.ensures.left memory)
