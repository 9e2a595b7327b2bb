-- Why `note_sync` meets its clause `unchanged`.
use Rattle.std.proofs.Common.{ap, sym, ◌∙◌, subst}
use Rattle.durable_model_writes.specs.History.{MayLeave}
use Rattle.durable_model.specs.Memory.{history, left_as_kept}
use Rattle.durable_model.proofs.memory.MemoryDisk.note_sync.Goals as goal

pub returns-clause-unchanged : goal.returns-clause-unchanged
returns-clause-unchanged c =
    let old = c.args.self.now in
    let notes = c.note_call.ensures.notes in
    record {
      same = ap (λ b. b.items) c.note_call.ensures.bytes;
      nothing_new = λ image left.
          let left_then = subst (λ f. MayLeave (history c.note_call.new.self) f image) notes.first_is left in
          let is = subst (λ h. MayLeave h old.first.items image) notes.history_is left_then in
          subst (MayLeave (history old) old.first.items) (sym (is ∙ sym old.kept)) (left_as_kept old);
    }
