-- What opening lists of the two files of a node, and what it refuses.
use Rattle.std.specs.Prelude.{◌≡◌, ◌⊎◌, ℕ, ◌+◌, List, [], length}
use Rattle.durable_pair.specs.Images.{IsSpent}
use Rattle.acceptor_log_form.specs.declared.header.Header.{Header}
use Rattle.acceptor_log_form.specs.declared.record.Record.{Record}
use Rattle.acceptor_log_form.specs.declared.errors.LogError.{LogError}
use Rattle.acceptor_log_form.specs.Text.{blocks, header_size, StandsFor}
use Rattle.acceptor_log_form.specs.Fault.{HasFault}
use Rattle.acceptor_log_old.specs.Migrated.{migrated}
use Rattle.acceptor_log_migrating.specs.Stands.{CanMigrate, IsNotMigrated}

-- neither file has bytes: there is no journal yet
abbrev pub HasNoFile : List ℕ → List ℕ → Type 0
HasNoFile new old = (new ≡ []) × (old ≡ [])

-- the records are those that migration makes of an old journal's
abbrev pub WereMigrated : Header → List ℕ → List Record → Type 0
WereMigrated h old rs = (xs : List Record) × CanMigrate h xs old × (rs ≡ migrated xs)

-- Opening the journal on these files lists these records: an old one that counts is migrated.
abbrev pub AreListedIn : Header → List ℕ → List ℕ → List Record → Type 0
AreListedIn h new old rs =
    ((IsSpent old → ⊥) × WereMigrated h old rs)
    ⊎ (HasNoFile new old × (rs ≡ []))
    ⊎ (IsSpent old × (HasNoFile new old → ⊥) × StandsFor h rs new)

-- Opening it is refused so.
abbrev pub AreRefusedIn : Header → List ℕ → List ℕ → LogError → Type 0
AreRefusedIn h new old e =
    ((IsSpent old → ⊥) × IsNotMigrated h old e) ⊎ (IsSpent old × (HasNoFile new old → ⊥) × HasFault h new e)

-- how many bytes the journal of these records has, to its closed gate and with it
abbrev pub IsSizeOf : List Record → ℕ → Type 0
IsSizeOf rs size = size ≡ header_size + length (blocks rs) + 1

-- Where neither file has bytes the size is 0. Else it is that of the journal of these records: of the one in the new file, or of the one
-- that migration makes of the old file where that counts.
abbrev pub HasSize : List ℕ → List ℕ → List Record → ℕ → Type 0
HasSize new old rs size = (HasNoFile new old × (size ≡ 0)) ⊎ ((HasNoFile new old → ⊥) × IsSizeOf rs size)
