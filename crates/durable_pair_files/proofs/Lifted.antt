-- What a call did to what is kept of the files it did to the pair of files.
use Rattle.std.proofs.Common.{◌≡◌, ◌+◌, ℕ, List, [], Bool, true, false, Result, Ok, Err, sym, ◌∙◌, subst}
use Rattle.std.proofs.lemmas.Bool.{false≢true}
use Rattle.std.specs.Prelude.{OnOk, OnErr}
use Rattle.core.specs.Result.{is_err}
use Rattle.durable_model_writes.specs.declared.call.Call.{Call}
use Rattle.durable_model_writes.specs.declared.call.Call.TheVariants.{Synced, Left}
use Rattle.durable_model.specs.Honest.{Only}
use Rattle.durable_pair_held.specs.declared.held.Held.{Held}
use Rattle.durable_pair_held.specs.declared.noted.Noted.{Noted}
use Rattle.durable_pair_files.specs.declared.file.FilePair.{FilePair}
use Rattle.durable_pair_held.specs.Past.{Past, IsLeftBehind, of_new, of_old, DoesNew, DoesOld, seen_new, seen_old, may_leave_new, may_leave_old}
use Rattle.durable_pair_held.specs.Held.{past_of, CanNoteMore, syncs_due}
use Rattle.durable_pair_files.specs.OnFiles.{FilesDoNew, FilesDoOld}
use Rattle.durable_pair_held.proofs.Noting.{new_stands, old_stands}

module _ (call : Call) (bytes : List ℕ) (old new : FilePair) where
  pub lifted_new : DoesNew call bytes (past_of old.held) (past_of new.held) → FilesDoNew call bytes old new
  lifted_new does = record {
    sees = does.sees;
    left = does.left;
    other_same = does.other_same;
    other_left = does.other_left;
    time = record { later = does.time.later; nothing_else = does.time.nothing_else; keeps = does.time.keeps };
  }

  pub lifted_old : DoesOld call bytes (past_of old.held) (past_of new.held) → FilesDoOld call bytes old new
  lifted_old does = record {
    sees = does.sees;
    left = does.left;
    other_same = does.other_same;
    other_left = does.other_left;
    time = record { later = does.time.later; nothing_else = does.time.nothing_else; keeps = does.time.keeps };
  }

-- where nothing was noted
module _ (old new : FilePair) (same : past_of new.held ≡ past_of old.held) where
  pub new_stays : FilesDoNew Left [] old new
  new_stays = lifted_new Left [] old new (new_stands (past_of old.held) (past_of new.held) same)

  pub old_stays : FilesDoOld Left [] old new
  old_stays = lifted_old Left [] old new (old_stands (past_of old.held) (past_of new.held) same)

-- what a crash leaves, where it is what reads give: of the file that was synced, and of the other one
module _ (p q : Past) where
  pub new_rests : DoesNew Synced [] p q → Only (seen_new q) (may_leave_new q)
  new_rests does c left = does.left c left ∙ sym does.sees

  pub old_rests : DoesOld Synced [] p q → Only (seen_old q) (may_leave_old q)
  old_rests does c left = does.left c left ∙ sym does.sees

  module _ (call : Call) (bytes : List ℕ) where
    pub old_rests_beside : DoesNew call bytes p q → Only (seen_old p) (may_leave_old p) → Only (seen_old q) (may_leave_old q)
    old_rests_beside does rests c left = rests c ((does.other_left c).0 left) ∙ sym does.other_same

    pub new_rests_beside : DoesOld call bytes p q → Only (seen_new p) (may_leave_new p) → Only (seen_new q) (may_leave_new q)
    new_rests_beside does rests c left = rests c ((does.other_left c).0 left) ∙ sym does.other_same

  -- what stands as before rests as before
  module _ (same : q ≡ p) where
    pub new_rests_so : Only (seen_new p) (may_leave_new p) → Only (seen_new q) (may_leave_new q)
    new_rests_so = new_rests_beside Left [] (old_stands p q same)

    pub old_rests_so : Only (seen_old p) (may_leave_old p) → Only (seen_old q) (may_leave_old q)
    old_rests_so = old_rests_beside Left [] (new_stands p q same)

-- files that were opened rest
module _ (p : Past) (none : p.notes ≡ []) where
  pub opened_new : Only (seen_new p) (may_leave_new p)
  opened_new c left = subst (λ (notes : List Noted). IsLeftBehind (of_new notes) p.new c) none left

  pub opened_old : Only (seen_old p) (may_leave_old p)
  opened_old c left = subst (λ (notes : List Noted). IsLeftBehind (of_old notes) p.old c) none left

-- what a call says of its failures, where it failed, and of its success
pub of_err : {T E P : Type 0} (r : Result T E) → is_err r ≡ true → OnErr r P → P
of_err (Ok x) is has = absurd (false≢true is)
of_err (Err e) is has = has

pub of_ok : {T E P : Type 0} (r : Result T E) → is_err r ≡ false → OnOk r P → P
of_ok (Ok x) is has = has
of_ok (Err e) is has = absurd (false≢true (sym is))

-- a sync that was due takes the space of one note
pub due_new : (old_settled : Bool) (held : Held) → CanNoteMore (syncs_due false old_settled) held
    → CanNoteMore (syncs_due true old_settled + 1) held
due_new true held can = can
due_new false held can = can

pub due_old : (settled : Bool) (held : Held) → CanNoteMore (syncs_due settled false) held
    → CanNoteMore (syncs_due settled true + 1) held
due_old true held can = can
due_old false held can = can
