-- What a disk over a real file stands for: what the disk in memory does that it keeps beside the file.
use Rattle.std.specs.Prelude.{◌≡◌, ℕ, ◌+◌, List, length}
use Rattle.durable_model.specs.declared.file.FileDisk.{FileDisk}
use Rattle.durable_model.specs.Honest.{MayWantMemory}
use Rattle.durable_model.specs.Memory.{seen_by_memory, memory_moment, memory_may_leave, memory_left_since, calls_made, IsSettled}

-- what a read gives, where it succeeds
abbrev pub seen_by_file : FileDisk → List ℕ
seen_by_file disk = seen_by_memory disk.held

-- how many calls were noted
abbrev pub file_moment : FileDisk → ℕ
file_moment disk = memory_moment disk.held

-- what a crash now may leave of an honest file
abbrev pub file_may_leave : FileDisk → List ℕ → Type 0
file_may_leave disk = memory_may_leave disk.held

-- what a crash since t calls were noted might have left of an honest file
abbrev pub file_left_since : FileDisk → ℕ → List ℕ → Type 0
file_left_since disk = memory_left_since disk.held

abbrev pub file_faults : FileDisk → ℕ
file_faults disk = disk.failures

-- a write of these bytes, where it may be out of memory, was noted: one call more
abbrev pub NotesWrite : ℕ → List ℕ → FileDisk → FileDisk → Type 0
NotesWrite at bytes old new =
    MayWantMemory at (length bytes) (seen_by_file old) → calls_made new.held ≡ calls_made old.held + 1

-- no call was made, and a crash leaves what was read as it was opened
pub record IsAsOpened (disk : FileDisk) : Type 0 where
  pub settled : IsSettled disk.held
  pub whole : disk.failures ≡ 0

-- The premise about a real file, of two disks: one over which calls were made from moment t on, in the last of which the
-- machine may have crashed, and one that was opened over the same file afterwards. The file was honest if what was read
-- at that opening is something that a crash since t might have left. Nothing in the language speaks of a machine that
-- crashes, so a caller can only suppose it; it holds of some pairs of disks and fails of others.
abbrev pub WasHonest : FileDisk → ℕ → FileDisk → Type 0
WasHonest before t after = file_left_since before t (seen_by_file after)
