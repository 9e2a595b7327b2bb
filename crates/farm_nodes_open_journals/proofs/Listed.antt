-- A migrated journal is listed.
use Rattle.std.proofs.Common.{◌≡◌, ◌≢◌, refl, ℕ, ◌+◌, List, [], ◌∷◌, length, Some, sym, ap, ◌∙◌, subst}
use Rattle.durable_model_writes.specs.Writes.{overwritten}
use Rattle.durable_model.specs.declared.disk.Disk as disks
use Rattle.durable_pair.specs.declared.pair.Pair as pairs
use Rattle.acceptor_log_form.specs.Fault.{HasFault}
use Rattle.acceptor_log_form.specs.Reading.{listed}
use Rattle.acceptor_log_form.specs.Text.{blocks, header_size, StandsFor}
use Rattle.acceptor_log_form.specs.declared.errors.LogError.{LogError}
use Rattle.acceptor_log_form.specs.declared.errors.LogError.TheVariants as fault
use Rattle.acceptor_log_form.specs.declared.header.Header.{Header}
use Rattle.acceptor_log_form.specs.declared.record.Record.{Record}
use Rattle.acceptor_log.specs.Acknowledged.{acknowledged, IsReady}
use Rattle.acceptor_log.specs.Rest.{Rests}
use Rattle.acceptor_log.specs.declared.log.Log.{Log}
use Rattle.acceptor_log_old.specs.Migrated.{migrated}
use Rattle.acceptor_log_migrating.specs.Stands.{CanMigrate}
use Rattle.farm_nodes_open_journals.specs.Journals.{WasMigrated}

module _ {P : Type 0} (disk : disks.Ghosts P) (pair : pairs.Ghosts P) where
  pub was_migrated : (h : Header) (p : P) (log : Log P) (rs : List Record) → log.header ≡ h → IsReady disk log
      → CanMigrate h rs (pair.old_seen p) → acknowledged disk.seen log ≡ migrated rs → pair.old_seen log.disk ≡ overwritten (pair.old_seen p) 0 (0 ∷ []) → WasMigrated disk pair h p log.disk
  was_migrated h p log rs header ready can are turned = record {
    old = rs;
    can = can;
    stands = subst (λ (l : List Record). StandsFor h l (disk.seen log.disk)) are (subst (λ (g : Header). StandsFor g (acknowledged disk.seen log) (disk.seen log.disk)) header ready.rests.stands);
    turned = turned;
  }

module _ {D : Type 0} (disk : disks.Ghosts D) (h : Header) (log : Log D) (from : D) (header : h ≡ log.header) (there : from ≡ log.disk)
    (ready : IsReady disk log) where
  still_honest : disk.is_honest from
  still_honest = subst disk.is_honest (sym there) ready.rests.honest

  still_stands : StandsFor h (acknowledged disk.seen log) (disk.seen from)
  still_stands =
      subst (λ (d : D). StandsFor h (acknowledged disk.seen log) (disk.seen d)) (sym there)
      (subst (λ (g : Header). StandsFor g (acknowledged disk.seen log) (disk.seen log.disk)) (sym header) ready.rests.stands)

  -- it rests on what was read
  pub rests_still : (rs : List Record) (gate : ℕ) → (disk.is_honest from → StandsFor h rs (disk.seen from)) → gate ≡ header_size + length (blocks rs) → Rests disk h rs gate from
  rests_still rs gate stands at_gate = record {
    honest = still_honest;
    stands = stands still_honest;
    at_gate = at_gate;
    durable = λ c left. ready.rests.durable c (subst (λ (d : D). disk.may_leave d c) there left) ∙ ap disk.seen (sym there);
  }

  -- which is what was acknowledged
  pub records_again : ((h : Header) (rs : List Record) (bytes : List ℕ) → StandsFor h rs bytes → listed h bytes ≡ Some rs) → (rs : List Record) → (disk.is_honest from → StandsFor h rs (disk.seen from))
      → rs ≡ acknowledged disk.seen log
  records_again one rs stands =
      let both : Some rs ≡ Some (acknowledged disk.seen log) = sym (one h rs (disk.seen from) (stands still_honest)) ∙ one h (acknowledged disk.seen log) (disk.seen from) still_stands in
      cc

  -- and has no fault
  pub sound_again : ((h : Header) (rs : List Record) (bytes : List ℕ) (e : LogError) → StandsFor h rs bytes → HasFault h bytes e → ⊥) → (e : LogError) → (disk.is_honest from → HasFault h (disk.seen from) e) → ⊥
  sound_again none e bad = none h (acknowledged disk.seen log) (disk.seen from) e still_stands (bad still_honest)

-- a refusal that is none other is one of memory
pub memory_only : (e : LogError) → ((e ≢ fault.NoMemory) → ⊥) → e ≡ fault.NoMemory
memory_only fault.NoMemory never = refl
memory_only fault.Device never = absurd (never (λ bad. absurd (cc)))
memory_only fault.NotAJournal never = absurd (never (λ bad. absurd (cc)))
memory_only fault.BadRecord never = absurd (never (λ bad. absurd (cc)))
memory_only fault.OtherSource never = absurd (never (λ bad. absurd (cc)))
memory_only fault.Stopped never = absurd (never (λ bad. absurd (cc)))
memory_only fault.Full never = absurd (never (λ bad. absurd (cc)))

-- no bytes have a fault of the device
pub no_device : (h : Header) (bytes : List ℕ) (e : LogError) → (e ≢ fault.NoMemory → HasFault h bytes e) → e ≢ fault.Device
no_device h bytes fault.NoMemory refused bad = absurd (cc)
no_device h bytes fault.Device refused bad = refused (λ same. absurd (cc))
no_device h bytes fault.NotAJournal refused bad = absurd (cc)
no_device h bytes fault.BadRecord refused bad = absurd (cc)
no_device h bytes fault.OtherSource refused bad = absurd (cc)
no_device h bytes fault.Stopped refused bad = absurd (cc)
no_device h bytes fault.Full refused bad = absurd (cc)
