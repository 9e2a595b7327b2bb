-- What migration makes of a pair of disks.
use Rattle.std.specs.Prelude.{◌≡◌, ◌≢◌, ℕ, List, [], ◌∷◌, Result, Ok, Err, length}
use Rattle.durable_model_writes.specs.Writes.{overwritten}
use Rattle.durable_model.specs.Honest.{Only}
use Rattle.durable_model.specs.Moments.{LeavesOnly}
use Rattle.durable_model.specs.declared.disk.Disk as disks
use Rattle.durable_pair.specs.declared.pair.Pair as pairs
use Rattle.acceptor_log_form.specs.declared.header.Header.{Header}
use Rattle.acceptor_log_form.specs.declared.record.Record.{Record}
use Rattle.acceptor_log_form.specs.declared.errors.LogError.{LogError}
use Rattle.acceptor_log_form.specs.declared.errors.LogError.TheVariants.{NoMemory, Device}
use Rattle.acceptor_log.specs.declared.log.Log.{Log}
use Rattle.acceptor_log.specs.Acknowledged.{acknowledged}
use Rattle.acceptor_log.specs.Rest.{Rests}
use Rattle.acceptor_log_old.specs.Migrated.{migrated}
use Rattle.acceptor_log_migrating.specs.declared.migrating.Laid.{Laid}
use Rattle.acceptor_log_migrating.specs.Stands.{CanMigrate, HasOld, IsMigrating, IsNotMigrated}

-- the pair that comes back, with the journal or with a refusal
abbrev pub disk_back : {P : Type 0} → Result (Log P) (P × LogError) → P
disk_back (Ok log) = log.disk
disk_back (Err refused) = refused.0

-- It is a fault of the old journal, where neither the device nor memory failed.
abbrev pub IsRefusedFor : Header → List ℕ → LogError → Type 0
IsRefusedFor h old e = e ≢ NoMemory → e ≢ Device → IsNotMigrated h old e

-- the old journal's first byte was set to 0
abbrev pub IsTurned : {P : Type 0} → pairs.Ghosts P → P → P → Type 0
IsTurned pair given now = pair.old_seen now ≡ overwritten (pair.old_seen given) 0 (0 ∷ [])

module _ {P : Type 0} (disk : disks.Ghosts P) (pair : pairs.Ghosts P) where
  -- what the journal has acknowledged is what the old one's records were made to
  abbrev pub HasMigrated : Header → P → Log P → Type 0
  HasMigrated h given log =
      (rs : List Record) × CanMigrate h rs (pair.old_seen given) × (acknowledged disk.seen log ≡ migrated rs)

  -- so many of those were put down, and the pair rests on them
  abbrev pub IsLaid : Header → P → P → Laid → Type 0
  IsLaid h given now laid =
      (rs : List Record) × CanMigrate h rs (pair.old_seen given) × (laid.count ≡ length (migrated rs))
      × Rests disk h (migrated rs) laid.gate now

  -- A crash at any moment on the way leaves the old journal, which was synced, or the new one.
  abbrev pub Moves : Header → P → P → Type 0
  Moves h given now =
      Only (pair.old_seen given) (pair.old_may given) → (rs : List Record) → CanMigrate h rs (pair.old_seen given)
      → LeavesOnly disk.moment pair.both_since given now (IsMigrating h rs (pair.old_seen given))

  -- where it was refused for the old journal's sake it leaves that
  abbrev pub RefusalKeepsOld : P → P → LogError → Type 0
  RefusalKeepsOld given now e =
      Only (pair.old_seen given) (pair.old_may given) → e ≢ NoMemory → e ≢ Device
      → LeavesOnly disk.moment pair.both_since given now (HasOld (pair.old_seen given))

  -- where the device did not fail reads give what they gave
  abbrev pub IsUnwritten : P → P → LogError → Type 0
  IsUnwritten given now e =
      e ≢ Device → (disk.seen now ≡ disk.seen given) × (pair.old_seen now ≡ pair.old_seen given)
