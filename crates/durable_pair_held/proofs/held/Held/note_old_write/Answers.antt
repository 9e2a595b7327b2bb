-- Why `note_old_write` meets its clauses `done` and `stands`.
use Rattle.std.specs.Prelude.{reverse}
use Rattle.durable_pair_held.specs.declared.noted.Noted.TheVariants.{Old}
use Rattle.durable_pair_held.specs.Past.{Content}
use Rattle.durable_pair_held.specs.Held.{past_of}
use Rattle.durable_pair_held.proofs.Noting.{old_wrote, last_first}
use Rattle.durable_pair_held.proofs.held.Held.note_old_write.Goals as goal

pub returns-in-Ok-clause-done : goal.returns-in-Ok-clause-done
returns-in-Ok-clause-done c =
    let old = c.args.self.now in
    let f : Content = (c.write_over.new.file.items, c.write_over.new.lost.items) in
    let notes = last_first old.notes.items c.write_over.new.notes.items c.push_reserved.new.self.items (Old c.in-Ok.step) c.write_over.ensures.notes c.push_reserved.ensures.items in
    old_wrote (past_of old) _ c.in-Ok.step f c.args.at c.args.bytes.now (λ i. record { notes = notes i; new = (old.bytes.items, c.write_over.ensures.other_stays i); old = (c.write_over.new.file.items, c.write_over.new.lost.items) }) c.in-Ok.ensures.done

pub returns-in-Err-clause-stands : goal.returns-in-Err-clause-stands
returns-in-Err-clause-stands c =
    let old = c.args.self.now in
    λ i. record { notes = reverse (c.write_over.ensures.notes i); new = (old.bytes.items, c.write_over.ensures.other_stays i); old = (c.in-Err.ensures.stays i, c.in-Err.ensures.lost_stays i) }
