-- Journals that are opened on pairs of disks, and one that is refused.
use Rattle.std.specs.Prelude.{◌≡◌, ◌≢◌, ◌⊎◌, ◌↔◌, ◌+◌, ℕ, true, List, [], length, drop, Option, Some, None, Result, slice_get, MatchResult}
use Rattle.std.specs.Global.{Vec}
use Rattle.durable_model.specs.Honest.{Risen}
use Rattle.durable_model.specs.Moments.{LeavesOnly}
use Rattle.durable_model.specs.declared.disk.Disk as disks
use Rattle.durable_pair.specs.declared.pair.Pair as pairs
use Rattle.durable_pair.specs.Images.{Images, Both}
use Rattle.acceptor_log_form.specs.Fault.{HasFault}
use Rattle.acceptor_log_form.specs.Text.{StandsFor}
use Rattle.acceptor_log_form.specs.declared.errors.LogError.{LogError}
use Rattle.acceptor_log_form.specs.declared.errors.LogError.TheVariants.{Device, NoMemory}
use Rattle.acceptor_log_form.specs.declared.header.Header.{Header}
use Rattle.acceptor_log_form.specs.declared.record.Record.{Record}
use Rattle.acceptor_log.specs.Acknowledged.{acknowledged, IsSound}
use Rattle.acceptor_log.specs.declared.log.Log.{Log}
use Rattle.acceptor_log_old.specs.Migrated.{migrated}
use Rattle.acceptor_log_migrating.specs.Stands.{CanMigrate, IsMigrating, IsNotMigrated}
use Rattle.acceptor_log_migrating.specs.Moving.{IsTurned}
use Rattle.farm_nodes_open_journals.specs.declared.refused.RefusedPair.{RefusedPair}
use Rattle.std.specs.Vec.Iter.{into_iter_items}
use Rattle.paxos_core_world.specs.Quorum.{Sizes}
use Rattle.farm_nodes_open_old.specs.OnPairs.{MayShow, IsShown, IsUntouched}
use Rattle.farm_nodes_open_journals.specs.WhichJournal.{WhichJournal, CountsOn}
use Rattle.farm_nodes_open_journals.specs.WhichJournal as which

-- whose journal it is
abbrev pub header_of : Sizes → List ℕ → ℕ → Header
header_of q digest node =
    record { nodes = q.nodes; promise = q.promise; accept = q.accept; node = node; digest = digest }

module _ {P : Type 0} (disk : disks.Ghosts P) (pair : pairs.Ghosts P) where
  -- what a crash now may leave of both; or the old journal as it is, or no more of that, and the new one is of what
  -- migration makes of these records
  abbrev pub MayTurn : Header → List Record → P → Images → Type 0
  MayTurn header old p im = Both pair.new_may pair.old_may p im ⊎ IsMigrating header old (pair.old_seen p) im

  -- what a crash now may leave of both; or the old journal as it is
  abbrev pub MayStay : P → Images → Type 0
  MayStay p im = Both pair.new_may pair.old_may p im ⊎ (im.1 ≡ pair.old_seen p)

  -- The old journal was migrated: what is listed is what that makes of its records, and it counts no more. A crash at any
  -- moment of it leaves one of the two journals.
  pub record IsMigrated (header : Header) (given : P) (log : Log P) (records : List Record) : Type 0 where
    pub old : List Record
    pub can : CanMigrate header old (pair.old_seen given)
    pub records_are : records ≡ migrated old
    pub turned : IsTurned pair given log.disk
    pub any_moment : LeavesOnly disk.moment pair.both_since given log.disk (MayTurn header old given)

  -- The new journal's bytes stand for what is listed. It is as it was, and a crash at any moment of it shows what one
  -- might have shown before.
  pub record IsListed (header : Header) (given : P) (log : Log P) (records : List Record) : Type 0 where
    pub stands : StandsFor header records (disk.seen given)
    pub shown : IsShown disk pair given log.disk
    pub any_moment : LeavesOnly disk.moment disk.left_since given log.disk (MayShow disk pair given)

  -- what is listed, by the journal that counts: no record where none does, those of the new one, or what migration makes of the old one's
  abbrev pub IsOpenedOver : Header → P → Log P → List Record → WhichJournal → Type 0
  IsOpenedOver header given log records which.None = records ≡ []
  IsOpenedOver header given log records which.New = IsListed header given log records
  IsOpenedOver header given log records which.Old = IsMigrated header given log records

  -- It is the journal on the pair that was given, by the one that counted there. All of it holds of a pair whose disks are
  -- both honest, and just such a one is honest as a disk afterwards.
  pub record IsOpened (header : Header) (given : P) (log : Log P) (records : List Record) : Type 0 where
    pub sound : IsSound disk log
    pub going : log.going ≡ true
    pub header_is : log.header ≡ header
    pub honest : disk.is_honest log.disk ↔ pair.is_whole given
    pub acknowledged_are : pair.is_whole given → acknowledged disk.seen log ≡ records
    pub over : pair.is_whole given → (what : WhichJournal) → CountsOn disk pair what given → IsOpenedOver header given log records what
    pub unfailed : disk.faults log.disk ≡ disk.faults given

  -- why a journal is refused: the new one has the fault; or the old one can't be migrated
  abbrev pub IsDueTo : Header → P → LogError → WhichJournal → Type 0
  IsDueTo header given fault which.None = ⊥
  IsDueTo header given fault which.New = HasFault header (disk.seen given) fault
  IsDueTo header given fault which.Old = IsNotMigrated header (pair.old_seen given) fault

  -- it is that which counts
  abbrev pub IsDueToJournal : Header → P → LogError → Type 0
  IsDueToJournal header given fault = (what : WhichJournal) × CountsOn disk pair what given × IsDueTo header given fault what

  -- the old journal was migrated before it was refused
  pub record WasMigrated (header : Header) (given back : P) : Type 0 where
    pub old : List Record
    pub can : CanMigrate header old (pair.old_seen given)
    pub stands : StandsFor header (migrated old) (disk.seen back)
    pub turned : IsTurned pair given back

  -- What a crash at any moment leaves, by the journal that counts: of the new one what it might have left before; one of the two where
  -- the old one can be migrated, and the old one where it is refused for its own sake.
  abbrev pub LeavesRefused : Header → (given back : P) → LogError → WhichJournal → Type 0
  LeavesRefused header given back fault which.None = Unit {0}
  LeavesRefused header given back fault which.New = LeavesOnly disk.moment disk.left_since given back (MayShow disk pair given)
  LeavesRefused header given back fault which.Old =
      ((old : List Record) → CanMigrate header old (pair.old_seen given)
      → LeavesOnly disk.moment pair.both_since given back (MayTurn header old given))
      × (fault ≢ NoMemory → fault ≢ Device → LeavesOnly disk.moment pair.both_since given back (MayStay given))

  -- It is the pair that was given, and the journal on it has the fault; or memory or the device failed. Its old journal
  -- may have been migrated; but for that nothing was written, where the device did not fail.
  pub record IsRefused (header : Header) (given back : P) (fault : LogError) : Type 0 where
    pub whole : pair.is_whole given → pair.is_whole back
    pub refused : pair.is_whole given → fault ≢ NoMemory → fault ≢ Device → IsDueToJournal header given fault
    pub unwritten : pair.is_whole given → fault ≢ Device
        → IsUntouched disk pair given back ⊎ WasMigrated header given back
    pub any_moment : pair.is_whole given → (what : WhichJournal) → CountsOn disk pair what given → LeavesRefused header given back fault what
    pub failed : fault ≡ Device → Risen (disk.faults given) (disk.faults back)
    pub unfailed : fault ≢ Device → disk.faults back ≡ disk.faults given

  -- the one or the other
  abbrev pub Opens : Header → P → Result (Log P × Vec Record) (P × LogError) → Type 0
  Opens header given result = MatchResult result (λ opened. IsOpened header given opened.0 opened.1.items)
      (λ refused. IsRefused header given refused.0 refused.1)

  module _ (q : Sizes) (digest : List ℕ) (given : List P) where
    -- the journals of the first nodes, on their pairs
    pub record AreOpened (so_far : ℕ) (opened : List (Log P × Vec Record)) : Type 0 where
      pub size : length opened ≡ so_far
      pub each : (i : ℕ) (j : Log P × Vec Record) (p : P) → slice_get opened i ≡ Some j → slice_get given i ≡ Some p
          → IsOpened (header_of q digest i) p j.0 j.1.items

    -- The journal of a node is refused, and so is none in front of it: its pair stands between theirs and those behind it, which are as
    -- they were. Where there was no memory to begin with, all pairs are behind.
    pub record IsRefusedAt (node : ℕ) (fault : LogError) (opened : List (Log P × Vec Record)) (back : Option P) (behind : List P) : Type 0 where
      pub front : AreOpened node opened
      pub none : back ≡ None → (fault ≡ NoMemory) × (node ≡ 0) × (behind ≡ given)
      pub some : (b : P) → back ≡ Some b → (p : P) × (slice_get given node ≡ Some p) × IsRefused (header_of q digest node) p b fault
          × (behind ≡ drop (node + 1) given)

    -- the journals of all nodes
    abbrev pub AreAllOpened : List (Log P × Vec Record) → Type 0
    AreAllOpened opened = AreOpened (length given) opened

    -- or what comes back where one is refused
    abbrev pub IsRefusedOf : RefusedPair P → Type 0
    IsRefusedOf refused =
        IsRefusedAt refused.node refused.fault refused.opened.items refused.pair (into_iter_items refused.behind)
