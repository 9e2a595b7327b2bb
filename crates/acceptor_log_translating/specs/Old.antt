-- Old journals that can be migrated, and why others are not.
use Rattle.std.specs.Prelude.{◌≡◌, ◌⊎◌, ℕ, ◌≤◌, ◌^◌, List, length}
use Rattle.acceptor_log_form.specs.declared.header.Header.{Header}
use Rattle.acceptor_log_form.specs.declared.record.Record.{Record}
use Rattle.acceptor_log_form.specs.declared.errors.LogError.{LogError}
use Rattle.acceptor_log_form.specs.declared.errors.LogError.TheVariants.{BadRecord, Full}
use Rattle.acceptor_log_form.specs.Text.{journal_text}
use Rattle.acceptor_log_form.specs.Order.{AreInOrder}
use Rattle.acceptor_log_old.specs.OldText.{OldStandsFor}
use Rattle.acceptor_log_old.specs.OldFault.{HasOldFault}
use Rattle.acceptor_log_old.specs.Migrated.{migrated}
use Rattle.acceptor_log_translating.specs.declared.translating.Text.{Text}
use Rattle.acceptor_log_translating.specs.Translating.{IsMigratedText}

-- the records of an old journal that can be migrated: they keep the order, whatever rooms they name
pub record CanMigrate (h : Header) (rs : List Record) (old : List ℕ) : Type 0 where
  pub stands : OldStandsFor h rs old
  pub in_order : AreInOrder h.nodes h.node (2 ^ 16) rs

-- why an old journal is not migrated: it is none, or its records break the order, or the new one would be too long
abbrev pub IsNotMigrated : Header → List ℕ → LogError → Type 0
IsNotMigrated h old e =
    HasOldFault h old e
    ⊎ ((rs : List Record) × OldStandsFor h rs old × (e ≡ BadRecord) × (AreInOrder h.nodes h.node (2 ^ 16) rs → ⊥))
    ⊎ ((rs : List Record) × CanMigrate h rs old × (e ≡ Full) × (2 ^ 32 ≤ length (journal_text h (migrated rs))))

-- the text of the journal that migration makes of an old one
abbrev pub IsTextFor : Header → List ℕ → Text → Type 0
IsTextFor h old text = (rs : List Record) × CanMigrate h rs old × IsMigratedText h (migrated rs) text
