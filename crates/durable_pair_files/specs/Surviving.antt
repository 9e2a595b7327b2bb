-- What two files that were honest show behind a crash, once they are opened again.
use Rattle.std.specs.Prelude.{◌≡◌, ℕ, List}
use Rattle.durable_pair.specs.Images.{Both, IsSpent}
use Rattle.durable_pair_files.specs.declared.file.FilePair.{FilePair}
use Rattle.durable_pair_files.specs.OnFiles.{file_may_leave_new, file_may_leave_old, files_moment, files_shown_since, files_since, seen_in_file, seen_in_old_file, WereHonest}

-- The new one shows what a crash now may leave of it; and an old one that it leaves so that it counts no more does not count.
pub record ShowWhatIsLeft (before after : FilePair) : Type 0 where
  pub old : List ℕ
  pub left : Both file_may_leave_new file_may_leave_old before (seen_in_file after, old)
  pub spent : IsSpent old → IsSpent (seen_in_old_file after)

-- behind a crash after the last call
abbrev pub PairsSurvive : Type 0
PairsSurvive = (before after : FilePair) → WereHonest before (files_moment before) after → ShowWhatIsLeft before after

-- Behind a crash at any moment since t: where the old one counts no more the new one shows what a crash might have left of the pair
-- as one disk.
abbrev pub SpentPairsSurvive : Type 0
SpentPairsSurvive = (before after : FilePair) (t : ℕ)
    → WereHonest before t after → IsSpent (seen_in_old_file after) → files_shown_since before t (seen_in_file after)

-- and where it counts both show what one might have left at one moment
abbrev pub CountingPairsSurvive : Type 0
CountingPairsSurvive = (before after : FilePair) (t : ℕ)
    → WereHonest before t after → (IsSpent (seen_in_old_file after) → ⊥) → files_since before t (seen_in_file after, seen_in_old_file after)
