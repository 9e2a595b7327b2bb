-- What the steps of opening a journal say of its disk, or of its pair of disks.
use Rattle.std.specs.Prelude.{◌≡◌, ◌≢◌, ◌⊎◌, ℕ, List, [], Result, Ok, Err}
use Rattle.std.specs.Global.{Vec}
use Rattle.durable_model.specs.Moments.{LeavesOnly}
use Rattle.durable_model_writes.specs.Writes.{overwritten}
use Rattle.durable_model.specs.declared.disk.Disk as disks
use Rattle.durable_pair.specs.declared.pair.Pair as pairs
use Rattle.acceptor_log_form.specs.Fault.{HasFault}
use Rattle.acceptor_log_form.specs.Text.{journal_text}
use Rattle.acceptor_log_form.specs.declared.errors.LogError.{LogError}
use Rattle.acceptor_log_form.specs.declared.errors.LogError.TheVariants.{Device, NoMemory}
use Rattle.acceptor_log_form.specs.declared.header.Header.{Header}
use Rattle.acceptor_log_form.specs.declared.record.Record.{Record}
use Rattle.acceptor_log.specs.declared.log.Log.{Log}
use Rattle.acceptor_log_old.specs.Migrated.{migrated}
use Rattle.acceptor_log_migrating.specs.Stands.{CanMigrate}
use Rattle.farm_nodes_open_journals.specs.Journals.{WasMigrated}

-- the disk that comes back, with the journal or with a refusal
abbrev pub opened_disk : {D : Type 0} → Result (Log D × Vec Record) (D × LogError) → D
opened_disk (Ok opened) = opened.0.disk
opened_disk (Err refused) = refused.0

-- the bytes of a journal without records on a disk that was empty
abbrev pub first_text : Header → List ℕ
first_text header = overwritten [] 0 (journal_text header [])

-- there are bytes, and they have the fault, where neither the device nor memory failed
abbrev pub IsFaultOf : Header → List ℕ → LogError → Type 0
IsFaultOf header bytes e = e ≢ NoMemory → e ≢ Device → (bytes ≢ []) × HasFault header bytes e

-- a crash at any moment on the way leaves what one might have left before
abbrev pub LeavesNothingElse : {D : Type 0} → disks.Ghosts D → D → D → Type 0
LeavesNothingElse disk given now = LeavesOnly disk.moment disk.left_since given now (disk.may_leave given)

-- the records are what migration makes of the old journal's
abbrev pub AreMigrated : {P : Type 0} → pairs.Ghosts P → Header → P → List Record → Type 0
AreMigrated pair header given records =
    (rs : List Record) × CanMigrate header rs (pair.old_seen given) × (records ≡ migrated rs)

-- where the device did not fail reads give what they gave, or the old journal was migrated
abbrev pub IsSameOrMigrated : {P : Type 0} → disks.Ghosts P → pairs.Ghosts P → Header → P → P → LogError → Type 0
IsSameOrMigrated disk pair header given back e =
    e ≢ Device → ((disk.seen back ≡ disk.seen given) × (pair.old_seen back ≡ pair.old_seen given))
    ⊎ WasMigrated disk pair header given back
