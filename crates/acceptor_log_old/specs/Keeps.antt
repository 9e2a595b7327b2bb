-- What migration keeps.
use Rattle.std.specs.Prelude.{◌≡◌, ◌<◌, ◌≤◌, ◌^◌, ℕ, List}
use Rattle.acceptor_log_form.specs.declared.record.Record.{Record}
use Rattle.acceptor_log_form.specs.Leaves.{kept_in}
use Rattle.acceptor_log_form.specs.Order.{AreInOrder}
use Rattle.acceptor_log_old.specs.Migrated.{migrated}

-- of each room, where the records are in order, what its node has kept
abbrev pub MigrationKeepsParts : Type 0
MigrationKeepsParts =
    (n i : ℕ) (rs : List Record) → AreInOrder n i (2 ^ 16) rs → (room : ℕ) → room < 2 ^ 16 → kept_in (migrated rs) room ≡ kept_in rs room

-- the order of records
abbrev pub MigrationKeepsOrder : Type 0
MigrationKeepsOrder =
    (n i rooms : ℕ) (rs : List Record) → rooms ≤ 2 ^ 16 → AreInOrder n i rooms rs → AreInOrder n i rooms (migrated rs)
