-- Why `note_write` meets its clauses `notes`, `time` and `crash`.
use Rattle.std.proofs.Common.{rules, length, refl, ap, ◌∙◌, subst, length-append}
use Rattle.durable_model_writes.specs.declared.call.Call.TheVariants.{Wrote}
use Rattle.durable_model_writes.specs.History.{MayLeave}
use Rattle.durable_model.proofs.Elapsed.{noted_elapses}
use Rattle.durable_model_writes.proofs.Noted.{noted_last, kept_wrote, whole_more}
use Rattle.durable_model.proofs.memory.MemoryDisk.note_write.Goals as goal

pub invariant_of-self-2-clause-kept : goal.invariant_of-self-2-clause-kept
invariant_of-self-2-clause-kept c =
    let old = c.args.self.now in
    let bytes = c.args.bytes.now in
    let calls = c.note.new.calls.items in
    let written = c.keep.new.written.items in
    kept_wrote old.calls.items calls old.written.items written bytes old.bytes.items c.overwrite.new.file.items
    old.first.items c.args.at
    (noted_last old.calls.items calls old.written.items written bytes c.args.at old.whole c.note.ensures.noted c.keep.ensures.kept)
    (search rules) old.kept

pub invariant_of-self-2-clause-whole : goal.invariant_of-self-2-clause-whole
invariant_of-self-2-clause-whole c =
    let old = c.args.self.now in
    let bytes = c.args.bytes.now in
    whole_more old.calls.items c.note.new.calls.items old.written.items c.keep.new.written.items (Wrote c.args.at (length bytes))
    old.whole c.note.ensures.noted (ap length c.keep.ensures.kept ∙ length-append old.written.items bytes)

pub returns-clause-notes : goal.returns-clause-notes
returns-clause-notes c =
    let old = c.args.self.now in
    let bytes = c.args.bytes.now in
    record {
      history_is = noted_last old.calls.items c.note.new.calls.items old.written.items c.keep.new.written.items bytes c.args.at
          old.whole c.note.ensures.noted c.keep.ensures.kept;
      first_is = refl;
    }

pub returns-clause-time : goal.returns-clause-time
returns-clause-time c =
    noted_elapses c.args.self.now _ (Wrote c.args.at (length c.args.bytes.now)) c.args.bytes.now (returns-clause-notes c)

pub returns-clause-crash : goal.returns-clause-crash
returns-clause-crash c image left =
    let old = c.args.self.now in
    let last = noted_last old.calls.items c.note.new.calls.items old.written.items c.keep.new.written.items c.args.bytes.now
    c.args.at old.whole c.note.ensures.noted c.keep.ensures.kept in
    subst (λ h. MayLeave h old.first.items image) last left
