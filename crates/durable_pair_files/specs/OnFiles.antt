-- What a pair of disks over real files stands for: what is kept beside the files.
use Rattle.std.specs.Prelude.{◌≡◌, ℕ, List, []}
use Rattle.durable_model_writes.specs.declared.call.Call.{Call}
use Rattle.durable_model_writes.specs.Writes.{Torn}
use Rattle.durable_model.specs.Honest.{Follows}
use Rattle.durable_pair_files.specs.declared.file.FilePair.{FilePair}
use Rattle.durable_pair.specs.Images.{Images, Both}
use Rattle.durable_pair.specs.Does.{Does}
use Rattle.durable_pair_held.specs.Past.{seen_new, seen_old, may_leave_new, may_leave_old, moment, LeftSince, may_show, shown_since, OldIsSpent}
use Rattle.durable_pair_held.specs.Held.{past_of}
use Rattle.durable_pair_files.specs.Opening.{as_read}

-- what reads give, where they succeed
abbrev pub seen_in_file : FilePair → List ℕ
seen_in_file pair = seen_new (past_of pair.held)

abbrev pub seen_in_old_file : FilePair → List ℕ
seen_in_old_file pair = seen_old (past_of pair.held)

-- what a crash now may leave of honest files
abbrev pub file_may_leave_new : FilePair → List ℕ → Type 0
file_may_leave_new pair = may_leave_new (past_of pair.held)

abbrev pub file_may_leave_old : FilePair → List ℕ → Type 0
file_may_leave_old pair = may_leave_old (past_of pair.held)

-- how many calls were noted
abbrev pub files_moment : FilePair → ℕ
files_moment pair = moment (past_of pair.held)

-- what a crash since t calls were noted might have left of both honest files at one moment
abbrev pub files_since : FilePair → ℕ → Images → Type 0
files_since pair = LeftSince (past_of pair.held)

-- as one disk
abbrev pub OldFileIsSpent : FilePair → Type 0
OldFileIsSpent pair = OldIsSpent (past_of pair.held)

abbrev pub files_may_show : FilePair → List ℕ → Type 0
files_may_show pair = may_show (past_of pair.held)

abbrev pub files_shown_since : FilePair → ℕ → List ℕ → Type 0
files_shown_since pair = shown_since (past_of pair.held)

abbrev pub files_faults : FilePair → ℕ
files_faults pair = pair.failures

-- what a call on the new file does, and one on the old file
abbrev pub FilesDoNew : Call → List ℕ → FilePair → FilePair → Type 0
FilesDoNew = Does files_moment files_since (Both file_may_leave_new file_may_leave_old) seen_in_file file_may_leave_new
    seen_in_old_file file_may_leave_old

abbrev pub FilesDoOld : Call → List ℕ → FilePair → FilePair → Type 0
FilesDoOld = Does files_moment files_since (Both file_may_leave_new file_may_leave_old) seen_in_old_file file_may_leave_old
    seen_in_file file_may_leave_new

-- as one disk, where the old file counts no more, a write of n bytes leaves what may have been left, torn by it
abbrev pub FilesTear : ℕ → ℕ → FilePair → FilePair → Type 0
FilesTear at n old new = OldFileIsSpent old → Follows (Torn at n) (files_may_show old) (files_may_show new)

-- no call was made, and a crash leaves what was read as the files were opened
pub record AreAsOpened (pair : FilePair) : Type 0 where
  pub no_call : (past_of pair.held).notes ≡ []
  pub whole : pair.failures ≡ 0

-- The premise about two real files, of two pairs: one over which calls were made from moment t on, in the last of which the
-- machine may have crashed, and one that was opened over the same files afterwards. The files were honest if what was read
-- at that opening is something that a crash since t might have left of both at one moment: of an old file that counts no
-- more its first byte alone is read. A caller can only suppose it.
abbrev pub WereHonest : FilePair → ℕ → FilePair → Type 0
WereHonest before t after =
    (d : List ℕ) × files_since before t (seen_in_file after, d) × (seen_in_old_file after ≡ as_read d)
