-- Why what `sync_old_file` leaves is in order.
use Rattle.std.proofs.Common.{[], true, subst}
use Rattle.durable_model_writes.specs.declared.call.Call.TheVariants.{Synced}
use Rattle.durable_pair_held.specs.Held.{past_of, CanNoteMore, syncs_due}
use Rattle.durable_pair_files.proofs.Lifted.{old_rests, new_rests_beside, due_old}
use Rattle.durable_pair_files.proofs.file.FilePair.sync_old_file.Goals as goal

pub invariant_of-self-then-not-self-2 : goal.invariant_of-self-then-not-self-2
invariant_of-self-then-not-self-2 c =
    let pair = c.args.self.now in
    let now = c.note_old_sync.new.self in
    record {
      rests = λ settled. new_rests_beside (past_of pair.held) (past_of now) Synced [] c.note_old_sync.ensures.does (pair.rests settled);
      old_rests = λ _. old_rests (past_of pair.held) (past_of now) c.note_old_sync.ensures.does;
      spare = c.note_old_sync.ensures.spare (syncs_due pair.is_settled true) (due_old pair.is_settled pair.held
          (subst (λ s. CanNoteMore (syncs_due pair.is_settled s) pair.held) c.if-not-self-2.true pair.spare));
    }
