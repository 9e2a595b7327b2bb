-- What the bytes of a pair of disks stand for.
use Rattle.std.specs.Prelude.{◌≡◌, ◌⊎◌, ℕ, List}
use Rattle.durable_pair.specs.Images.{Images, IsSpent}
use Rattle.acceptor_log_form.specs.declared.header.Header.{Header}
use Rattle.acceptor_log_form.specs.declared.record.Record.{Record}
use Rattle.acceptor_log_form.specs.Text.{StandsFor}
use Rattle.acceptor_log_old.specs.OldText.{OldStandsFor}
use Rattle.acceptor_log_old.specs.Migrated.{migrated}
pub use Rattle.acceptor_log_translating.specs.Old.{CanMigrate, IsNotMigrated}

-- While the old bytes count, the records are those of the old journal, and else those of the new one.
abbrev pub PairStandsFor : Header → List Record → Images → Type 0
PairStandsFor h rs im = ((IsSpent im.1 → ⊥) × OldStandsFor h rs im.1) ⊎ (IsSpent im.1 × StandsFor h rs im.0)

-- the old journal is as it was
abbrev pub HasOld : List ℕ → Images → Type 0
HasOld old im = im.1 ≡ old

-- the old journal of these records is as it was, or it counts no more, and the new one is of what migration makes of them
abbrev pub IsMigrating : Header → List Record → List ℕ → Images → Type 0
IsMigrating h rs old im = (im.1 ≡ old) ⊎ (IsSpent im.1 × StandsFor h (migrated rs) im.0)
