-- What a log has acknowledged, and what is known of its disk.
use Rattle.std.specs.Prelude.{◌≡◌, ◌≢◌, true, ℕ, ◌+◌, List, [], ◌∷◌, ◌++◌, length, take, unwrap_or}
use Rattle.durable_model.specs.declared.disk.Disk as disks
use Rattle.durable_model.specs.Honest.{Unchanged}
use Rattle.acceptor_log_form.specs.declared.errors.LogError.{LogError}
use Rattle.acceptor_log_form.specs.declared.errors.LogError.TheVariants.{NotAJournal, BadRecord, OtherSource}
use Rattle.acceptor_log_form.specs.declared.record.Record.{Record}
use Rattle.acceptor_log_form.specs.Text.{body_text, blocks}
use Rattle.acceptor_log_form.specs.Reading.{listed}
use Rattle.acceptor_log.specs.declared.log.Log.{Log}
use Rattle.acceptor_log_writing.specs.Written.{with_record, with_records}
use Rattle.acceptor_log.specs.Rest.{Rests}

-- The records that were listed when the journal was opened and those acknowledged since: no field, but the first of
-- those that the bytes stand for which a read of the log's disk gives.
abbrev pub acknowledged : {D : Type 0} → (D → List ℕ) → Log D → List Record
acknowledged seen log = take log.count (unwrap_or (listed log.header (seen log.disk)) [])

-- of a log that goes on, on an honest disk
abbrev pub WhileGoing : {D : Type 0} → disks.Ghosts D → Log D → Type 0 → Type 0
WhileGoing disk log P = disk.is_honest log.disk → log.going ≡ true → P

-- a record more is acknowledged
abbrev pub Adds : {D : Type 0} → (D → List ℕ) → Record → Log D → Log D → Type 0
Adds seen r old new = acknowledged seen new ≡ acknowledged seen old ++ r ∷ []

-- so many more are
abbrev pub AddsAll : {D : Type 0} → (D → List ℕ) → List Record → Log D → Log D → Type 0
AddsAll seen qs old new = acknowledged seen new ≡ acknowledged seen old ++ qs

-- the bytes of the log's disk, once a record more is put down there
abbrev pub text_with : {D : Type 0} → (D → List ℕ) → Log D → Record → List ℕ
text_with seen log r = with_record (seen log.disk) log.gate r

-- the same of records that are put down at once
abbrev pub text_with_all : {D : Type 0} → (D → List ℕ) → Log D → List Record → List ℕ
text_with_all seen log qs = with_records (seen log.disk) log.gate qs

-- the log may go on: its disk rests on what it has acknowledged
pub record IsReady {D : Type 0} (disk : disks.Ghosts D) (log : Log D) : Type 0 where
  pub rests : Rests disk log.header (acknowledged disk.seen log) log.gate log.disk
  pub counted : log.count ≡ length (acknowledged disk.seen log)

-- while it goes on, it may
abbrev pub IsSound : {D : Type 0} → disks.Ghosts D → Log D → Type 0
IsSound disk log = disk.is_honest log.disk → log.going ≡ true → IsReady disk log

-- how many bytes the file has up to its closed gate, once the record is put down
abbrev pub file_with : {D : Type 0} → Log D → Record → ℕ
file_with log r = log.gate + 6 + length (body_text r)

-- the same of records that are put down at once
abbrev pub file_with_all : {D : Type 0} → Log D → List Record → ℕ
file_with_all log qs = log.gate + 1 + length (blocks qs)

-- a call wrote nothing, and stopped nothing
abbrev pub IsUnwritten : {D : Type 0} → disks.Ghosts D → Log D → Log D → Type 0
IsUnwritten disk old new = Unchanged disk.seen disk.may_leave old.disk new.disk × (new.going ≡ old.going)

-- it is no fault of what was read
abbrev pub IsNoFault : LogError → Type 0
IsNoFault e = (e ≢ NotAJournal) × (e ≢ BadRecord) × (e ≢ OtherSource)
