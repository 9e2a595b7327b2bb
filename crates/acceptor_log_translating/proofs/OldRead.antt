-- What an old journal's bytes are read as.
use Rattle.std.proofs.Common.{◌≡◌, ◌≢◌, ℕ, ◌≤◌, List, Bool, true, false, None, Result, Ok, Err, length, take, drop, inl, inr, refl, sym, subst}
use Rattle.std.specs.Prelude.{◌^◌, IfOk, IfErr}
use Rattle.acceptor_log_form.specs.declared.header.Header.{Header}
use Rattle.acceptor_log_form.specs.declared.record.Record.{Record}
use Rattle.acceptor_log_form.specs.declared.errors.LogError.{LogError}
use Rattle.acceptor_log_form.specs.declared.errors.LogError.TheVariants.{NoMemory, BadRecord}
use Rattle.acceptor_log_form.specs.Text.{StandsBehind}
use Rattle.acceptor_log_form.specs.Order.{AreInOrder}
use Rattle.acceptor_log_form.specs.Reading.{records_behind}
use Rattle.acceptor_log_old.specs.OldText.{old_header_size, old_header_text, are_plain, OldStandsFor}
use Rattle.acceptor_log_old.specs.OldFault.{IsInOldForm, HasOldFault}
use Rattle.acceptor_log_old.proofs.OldTexts.{old_listed-none, old_listed-cut}
use Rattle.acceptor_log_translating.specs.declared.translating.Text.{Text}
use Rattle.acceptor_log_translating.specs.declared.stepping.Room.{Room}
use Rattle.acceptor_log_translating.specs.Found.{AreBroken, AreFound}
use Rattle.acceptor_log_translating.specs.Texts.{IsTextOfRooms, IsTooLong}
use Rattle.acceptor_log_translating.specs.Old.{CanMigrate, IsNotMigrated, IsTextFor}

module _ (h : Header) (bytes behind : List ℕ) where
  old_stands : (rs : List Record) → take (old_header_size h) bytes ≡ old_header_text h → behind ≡ drop (old_header_size h) bytes → StandsBehind rs behind → are_plain rs ≡ true → OldStandsFor h rs bytes
  old_stands rs header is stands plain = record { stands = record { header = header; records = subst (StandsBehind rs) is stands }; plain = plain }

  pub can_migrate : (rs : List Record) → take (old_header_size h) bytes ≡ old_header_text h → behind ≡ drop (old_header_size h) bytes → StandsBehind rs behind → are_plain rs ≡ true
      → AreInOrder h.nodes h.node (2 ^ 16) rs → CanMigrate h rs bytes
  can_migrate rs header is stands plain order = record { stands = old_stands rs header is stands plain; in_order = order }

  -- bytes that are no records
  pub not_read : (e : LogError) → e ≡ BadRecord → IsInOldForm bytes → take (old_header_size h) bytes ≡ old_header_text h → behind ≡ drop (old_header_size h) bytes → records_behind 0 behind ≡ None
      → IsNotMigrated h bytes e
  not_read e bad form header is none = inl (subst (HasOldFault h bytes) (sym bad) (form, header, old_listed-cut h bytes behind is none))

  -- records that an old journal may not have, or that break the order
  pub is_broken : (rs : List Record) → IsInOldForm bytes → take (old_header_size h) bytes ≡ old_header_text h → behind ≡ drop (old_header_size h) bytes → StandsBehind rs behind
      → AreBroken h.nodes h.node rs → IsNotMigrated h bytes BadRecord
  is_broken rs form header is stands broken = by (are_plain rs) refl
    where
      by : (t : Bool) → are_plain rs ≡ t → IsNotMigrated h bytes BadRecord
      by true plain = inr (inl (rs, old_stands rs header is stands plain, refl, broken plain))
      by false other = inl (form, header, old_listed-none h rs bytes behind is stands other)

module _ (h : Header) (bytes behind : List ℕ) (rooms : List Room) (rs : List Record) (r : Result Text LogError) (can : CanMigrate h rs bytes) (are : AreFound h.nodes h.node behind rs rooms) where
  pub made_of : IfOk r (IsTextOfRooms h behind rooms) → IfOk r (IsTextFor h bytes)
  made_of ok = by r ok
    where
      by : (x : Result Text LogError) → IfOk x (IsTextOfRooms h behind rooms) → IfOk x (IsTextFor h bytes)
      by (Ok text) made = (rs, can, made rs are)
      by (Err e) none = tt

  pub too_long : IfErr r (λ e. e ≢ NoMemory → IsTooLong h behind rooms e) → IfErr r (λ e. e ≢ NoMemory → IsNotMigrated h bytes e)
  too_long err = by r err
    where
      by : (x : Result Text LogError) → IfErr x (λ e. e ≢ NoMemory → IsTooLong h behind rooms e) → IfErr x (λ e. e ≢ NoMemory → IsNotMigrated h bytes e)
      by (Ok text) none = tt
      by (Err e) long = λ memory. let is = long memory rs are in inr (inr (rs, can, is.0, is.1))
