-- What a call on the new file does to the pair of files as one disk.
use Rattle.std.proofs.Common.{ℕ, List, [], length, inl, inr, sym, ◌∙◌, subst}
use Rattle.std.specs.Prelude.{◌↔◌}
use Rattle.durable_model_writes.specs.declared.call.Call.{Call}
use Rattle.durable_model_writes.specs.declared.call.Call.TheVariants.{Wrote, Tore, Synced, Left}
use Rattle.durable_model_writes.specs.Writes.{Torn, torn_nothing}
use Rattle.durable_model_writes.specs.History.{MayLeaveAfter}
use Rattle.durable_model.specs.Honest.{Only, NothingNew, Follows, Unchanged, Elapses}
use Rattle.durable_pair_files.specs.declared.file.FilePair.{FilePair}
use Rattle.durable_pair_held.specs.Past.{both_as_kept, shown_is_new, new_is_shown}
use Rattle.durable_pair_held.specs.Held.{past_of}
use Rattle.durable_pair_files.specs.OnFiles.{FilesDoNew, OldFileIsSpent, files_moment, files_shown_since, files_may_show, seen_in_file, file_may_leave_new}

module _ (old new : FilePair) where
  module _ (call : Call) (bytes : List ℕ) (does : FilesDoNew call bytes old new) where
    pub file_honest : OldFileIsSpent new ↔ OldFileIsSpent old
    file_honest = (λ spent d left. spent d ((does.other_left d).1 left), λ spent d left. spent d ((does.other_left d).0 left))

    pub file_time : Elapses files_moment files_shown_since files_may_show old new
    file_time = record {
      later = does.time.later;
      nothing_else = λ t c le left. elim (does.time.nothing_else t left.0 le left.1) [
        | inl past ↦ inl (left.0, past, left.2)
        | inr now ↦ inr (left.0, now, left.2)
      ];
      keeps = λ t c le left. (left.0, does.time.keeps t left.0 le left.1, left.2);
    }

    follows : (at n : ℕ) → ((c : List ℕ) → MayLeaveAfter call bytes (file_may_leave_new old) (seen_in_file old) c → (d : List ℕ) × file_may_leave_new old d × Torn at n d c)
        → OldFileIsSpent old → Follows (Torn at n) (files_may_show old) (files_may_show new)
    follows at n tears spent c left =
        let was = tears c (does.left c (shown_is_new (past_of new.held) c (file_honest.1 spent) left)) in
        (was.0, new_is_shown (past_of old.held) was.0 spent was.1, was.2)

    nothing_shown : NothingNew (file_may_leave_new old) (file_may_leave_new new) → NothingNew (files_may_show old) (files_may_show new)
    nothing_shown nothing c left = (left.0, (nothing left.0.0 left.1.0, (does.other_left left.0.1).0 left.1.1), left.2)

  pub file_left_unchanged : FilesDoNew Left [] old new → Unchanged seen_in_file files_may_show old new
  file_left_unchanged does = record { same = does.sees; nothing_new = nothing_shown Left [] does does.left }

  pub file_synced_unchanged : FilesDoNew Synced [] old new → Unchanged seen_in_file files_may_show old new
  file_synced_unchanged does = record {
    same = does.sees;
    nothing_new = nothing_shown Synced [] does (λ c left. subst (file_may_leave_new old) (sym (does.left c left)) (both_as_kept (past_of old.held)).0);
  }

  pub file_synced_only : FilesDoNew Synced [] old new → OldFileIsSpent old → Only (seen_in_file new) (files_may_show new)
  file_synced_only does spent c left =
      does.left c (shown_is_new (past_of new.held) c ((file_honest Synced [] does).1 spent) left) ∙ sym does.sees

  module _ (at : ℕ) where
    pub file_wrote_follows : (bytes : List ℕ) → FilesDoNew (Wrote at (length bytes)) bytes old new → OldFileIsSpent old
        → Follows (Torn at (length bytes)) (files_may_show old) (files_may_show new)
    file_wrote_follows bytes does = follows (Wrote at (length bytes)) bytes does at (length bytes) (λ c left. left)

    pub file_tore_follows : (n : ℕ) → FilesDoNew (Tore at n) [] old new → OldFileIsSpent old
        → Follows (Torn at n) (files_may_show old) (files_may_show new)
    file_tore_follows n does = follows (Tore at n) [] does at n (λ c left. left)

    pub file_left_follows : (n : ℕ) → FilesDoNew Left [] old new → OldFileIsSpent old
        → Follows (Torn at n) (files_may_show old) (files_may_show new)
    file_left_follows n does = follows Left [] does at n (λ c left. (c, left, torn_nothing c at n))
