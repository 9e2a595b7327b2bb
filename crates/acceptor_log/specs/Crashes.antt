-- What a crash leaves of a journal.
use Rattle.std.specs.Prelude.{◌≡◌, true, ℕ, List, [], ◌∷◌, ◌++◌}
use Rattle.durable_model.specs.declared.disk.Disk as disks
use Rattle.durable_model.specs.declared.file.FileDisk.{FileDisk}
use Rattle.durable_model.specs.Moments.{LeavesOnly}
use Rattle.durable_model.specs.RealFile.{seen_by_file, file_moment, file_left_since, WasHonest}
use Rattle.acceptor_log_form.specs.declared.header.Header.{Header}
use Rattle.acceptor_log_form.specs.declared.record.Record.{Record}
use Rattle.acceptor_log_form.specs.Lists.{Between}
use Rattle.acceptor_log_writing.specs.OneOf.{Either}
use Rattle.acceptor_log_form.specs.Text.{StandsFor}
use Rattle.acceptor_log.specs.declared.log.Log.{Log}
use Rattle.acceptor_log.specs.Acknowledged.{acknowledged, IsSound}
use Rattle.acceptor_log.specs.Calls.{LeavesBetween, LeavesEither}

-- a file over which a crash left only journals between two lists, and which was honest, holds one when it is opened
abbrev pub FilesSurvive : Type 0
FilesSurvive =
    (h : Header) (low high : List Record) (from before after : FileDisk)
    → LeavesOnly file_moment file_left_since from before (Between h low high)
    → WasHonest before (file_moment from) after → Between h low high (seen_by_file after)

-- the same where it left only journals of one of the two
abbrev pub FilesSurviveWhole : Type 0
FilesSurviveWhole =
    (h : Header) (low high : List Record) (from before after : FileDisk)
    → LeavesOnly file_moment file_left_since from before (Either h low high)
    → WasHonest before (file_moment from) after → Either h low high (seen_by_file after)

module _ {D : Type 0} (disk : disks.Ghosts D) where
  -- a crash at any moment of an append leaves what was acknowledged before it, with the record or without
  abbrev pub LeavesAddedOrNot : Record → Log D → Log D → Type 0
  LeavesAddedOrNot r old new =
      LeavesBetween disk old.header (acknowledged disk.seen old) (acknowledged disk.seen old ++ r ∷ []) old.disk new.disk

  -- a crash at any moment of an append of many leaves what was acknowledged before it, with all of them or with none
  abbrev pub LeavesAllOrNone : List Record → Log D → Log D → Type 0
  LeavesAllOrNone qs old new =
      LeavesEither disk old.header (acknowledged disk.seen old) (acknowledged disk.seen old ++ qs) old.disk new.disk

  -- a crash between two calls leaves what is acknowledged, of a journal that goes on
  abbrev pub LeavesAcknowledged : Type 0
  LeavesAcknowledged =
      (log : Log D) (bytes : List ℕ) → IsSound disk log → disk.is_honest log.disk
      → log.going ≡ true → disk.may_leave log.disk bytes → StandsFor log.header (acknowledged disk.seen log) bytes

  -- a crash behind a call leaves such a journal as one at any moment of it left
  abbrev pub LeavesSameBehind : Type 0
  LeavesSameBehind =
      (h : Header) (low high : List Record) (before after : D) (bytes : List ℕ) → disk.is_honest after
      → LeavesBetween disk h low high before after → disk.may_leave after bytes → Between h low high bytes

  -- the same of one that left one of the two
  abbrev pub LeavesEitherBehind : Type 0
  LeavesEitherBehind =
      (h : Header) (low high : List Record) (before after : D) (bytes : List ℕ) → disk.is_honest after
      → LeavesEither disk h low high before after → disk.may_leave after bytes → Either h low high bytes
