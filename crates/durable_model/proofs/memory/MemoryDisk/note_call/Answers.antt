-- Why `note_call` meets its clauses `notes` and `time`.
use Rattle.std.proofs.Common.{[], refl, ap, arith, ◌∙◌}
use Rattle.durable_model_writes.specs.History.{noted}
use Rattle.durable_model.proofs.Elapsed.{noted_elapses}
use Rattle.durable_model_writes.proofs.Noted.{noted_none, kept_none, whole_more}
use Rattle.durable_model.proofs.memory.MemoryDisk.note_call.Goals as goal

pub invariant_of-self-clause-kept : goal.invariant_of-self-clause-kept
invariant_of-self-clause-kept c =
    let old = c.args.self.now in
    kept_none old.calls.items c.note.new.calls.items old.written.items old.bytes.items old.first.items c.args.call
    c.requires.nothing c.note.ensures.noted old.kept

pub invariant_of-self-clause-whole : goal.invariant_of-self-clause-whole
invariant_of-self-clause-whole c =
    let old = c.args.self.now in
    whole_more old.calls.items c.note.new.calls.items old.written.items old.written.items c.args.call old.whole
    c.note.ensures.noted (omega (arith, c.requires.nothing))

pub returns-clause-notes : goal.returns-clause-notes
returns-clause-notes c =
    let old = c.args.self.now in
    record {
      history_is = ap (λ calls. noted calls old.written.items []) c.note.ensures.noted
          ∙ noted_none old.calls.items old.written.items [] c.args.call c.requires.nothing;
      first_is = refl;
    }

pub returns-clause-time : goal.returns-clause-time
returns-clause-time c = noted_elapses _ _ c.args.call [] (returns-clause-notes c)
