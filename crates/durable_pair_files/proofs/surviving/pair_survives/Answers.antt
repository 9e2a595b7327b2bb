-- Why `pair_survives` meets its clauses.
use Rattle.std.proofs.Common.{List, ℕ, inl, refl, sym, subst}
use Rattle.durable_pair_held.specs.Past.{both_only_now}
use Rattle.durable_pair_held.specs.Held.{past_of}
use Rattle.durable_pair_files.specs.OnFiles.{files_since, seen_in_file, seen_in_old_file}
use Rattle.durable_pair_files.proofs.AsRead.{read_spent, read_whole, spent_read}
use Rattle.durable_pair_files.proofs.surviving.pair_survives.Goals as goal

pub returns-clause-at_rest : goal.returns-clause-at_rest
returns-clause-at_rest c before after honest = record {
  old = honest.0;
  left = both_only_now (past_of before.held) (seen_in_file after, honest.0) honest.1;
  spent = spent_read honest.0 (seen_in_old_file after) honest.2;
}

pub returns-clause-spent : goal.returns-clause-spent
returns-clause-spent c before after t honest spent =
    ((seen_in_file after, honest.0), honest.1, inl (read_spent honest.0 (seen_in_old_file after) honest.2 spent, refl))

pub returns-clause-counts : goal.returns-clause-counts
returns-clause-counts c before after t honest counts =
    subst (λ (d : List ℕ). files_since before t (seen_in_file after, d)) (sym (read_whole honest.0 (seen_in_old_file after) honest.2 counts)) honest.1
