-- Why `note_write` meets its clauses `done` and `stands`.
use Rattle.std.specs.Prelude.{reverse}
use Rattle.durable_pair_held.specs.declared.noted.Noted.TheVariants.{New}
use Rattle.durable_pair_held.specs.Past.{Content}
use Rattle.durable_pair_held.specs.Held.{past_of}
use Rattle.durable_pair_held.proofs.Noting.{new_wrote, last_first}
use Rattle.durable_pair_held.proofs.held.Held.note_write.Goals as goal

pub returns-in-Ok-clause-done : goal.returns-in-Ok-clause-done
returns-in-Ok-clause-done c =
    let old = c.args.self.now in
    let f : Content = (c.write_over.new.file.items, c.write_over.new.lost.items) in
    let notes = last_first old.notes.items c.write_over.new.notes.items c.push_reserved.new.self.items (New c.in-Ok.step) c.write_over.ensures.notes c.push_reserved.ensures.items in
    new_wrote (past_of old) _ c.in-Ok.step f c.args.at c.args.bytes.now (λ i. record { notes = notes i; new = (c.write_over.new.file.items, c.write_over.new.lost.items); old = (old.old_bytes.items, c.write_over.ensures.other_stays i) }) c.in-Ok.ensures.done

pub returns-in-Err-clause-stands : goal.returns-in-Err-clause-stands
returns-in-Err-clause-stands c =
    let old = c.args.self.now in
    λ i. record { notes = reverse (c.write_over.ensures.notes i); new = (c.in-Err.ensures.stays i, c.in-Err.ensures.lost_stays i); old = (old.old_bytes.items, c.write_over.ensures.other_stays i) }
