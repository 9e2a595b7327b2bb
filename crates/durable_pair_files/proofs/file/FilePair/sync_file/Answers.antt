-- Why what `sync_file` leaves is in order.
use Rattle.std.proofs.Common.{[], true, subst}
use Rattle.durable_model_writes.specs.declared.call.Call.TheVariants.{Synced}
use Rattle.durable_pair_held.specs.Held.{past_of, CanNoteMore, syncs_due}
use Rattle.durable_pair_files.proofs.Lifted.{new_rests, old_rests_beside, due_new}
use Rattle.durable_pair_files.proofs.file.FilePair.sync_file.Goals as goal

pub invariant_of-self-then-not-self : goal.invariant_of-self-then-not-self
invariant_of-self-then-not-self c =
    let pair = c.args.self.now in
    let now = c.note_sync.new.self in
    record {
      rests = λ _. new_rests (past_of pair.held) (past_of now) c.note_sync.ensures.does;
      old_rests = λ settled. old_rests_beside (past_of pair.held) (past_of now) Synced [] c.note_sync.ensures.does (pair.old_rests settled);
      spare = c.note_sync.ensures.spare (syncs_due true pair.is_old_settled) (due_new pair.is_old_settled pair.held
          (subst (λ s. CanNoteMore (syncs_due s pair.is_old_settled) pair.held) c.if-not-self.true pair.spare));
    }
