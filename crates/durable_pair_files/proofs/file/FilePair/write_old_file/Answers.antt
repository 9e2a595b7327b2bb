-- Why `write_old_file` meets its clause `tore`.
use Rattle.std.proofs.Common.{[], length, sym}
use Rattle.durable_model_writes.specs.declared.call.Call.TheVariants.{Tore}
use Rattle.durable_pair_held.specs.Held.{past_of, syncs_due}
use Rattle.durable_pair_held.proofs.Noting.{old_tore_none, old_wrote_tore}
use Rattle.durable_pair_files.proofs.Lifted.{lifted_old, new_rests_so, old_rests_so, of_err, of_ok}
use Rattle.durable_pair_files.proofs.file.FilePair.write_old_file.Goals as goal

-- there was no space for the note
pub invariant_of-self-then-may_want : goal.invariant_of-self-then-may_want
invariant_of-self-then-may_want c =
    let pair = c.args.self.now in
    let now = c.note_old_write.new.self in
    let stands = of_err c.note_old_write.result (sym c.if-is_err.ensures.value) c.note_old_write.ensures.stands in
    record {
      rests = λ settled. new_rests_so (past_of pair.held) (past_of now) stands (pair.rests settled);
      old_rests = λ settled. old_rests_so (past_of pair.held) (past_of now) stands (pair.old_rests settled);
      spare = of_err c.note_old_write.result (sym c.if-is_err.ensures.value) c.note_old_write.ensures.no_less (syncs_due pair.is_settled pair.is_old_settled) pair.spare;
    }

pub invariant_of-self-then-is_err : goal.invariant_of-self-then-is_err
invariant_of-self-then-is_err c =
    let pair = c.args.self.now in
    let now = c.note_old_write.new.self in
    let stands = of_err c.note_old_write.result (sym c.if-is_err.ensures.value) c.note_old_write.ensures.stands in
    record {
      rests = λ settled. new_rests_so (past_of pair.held) (past_of now) stands (pair.rests settled);
      old_rests = λ settled. old_rests_so (past_of pair.held) (past_of now) stands (pair.old_rests settled);
      spare = of_err c.note_old_write.result (sym c.if-is_err.ensures.value) c.note_old_write.ensures.no_less (syncs_due pair.is_settled pair.is_old_settled) pair.spare;
    }

pub returns-then-is_err-clause-tore : goal.returns-then-is_err-clause-tore
returns-then-is_err-clause-tore c device =
    let n = length c.args.bytes.now in
    lifted_old (Tore c.args.at n) [] c.args.self.now _ (old_tore_none (past_of c.args.self.now.held) (past_of c.note_old_write.new.self)
    (of_err c.note_old_write.result (sym c.if-is_err.ensures.value) c.note_old_write.ensures.stands) c.args.at n)

-- it was noted, and the file failed
pub returns-in-Err-clause-tore : goal.returns-in-Err-clause-tore
returns-in-Err-clause-tore c device =
    let bytes = c.args.bytes.now in
    lifted_old (Tore c.args.at (length bytes)) [] c.args.self.now _ (old_wrote_tore (past_of c.args.self.now.held) (past_of c.note_old_write.new.self) c.args.at bytes
    (of_ok c.note_old_write.result (sym c.if-is_err.ensures.value) c.note_old_write.ensures.done))
