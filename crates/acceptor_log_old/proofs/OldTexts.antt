-- What old journals are read as.
use Rattle.std.proofs.Common.{◌≡◌, ◌≢◌, ℕ, List, Bool, true, false, cond, Some, None, drop, take, sym, ap, ◌∙◌}
use Rattle.acceptor_log_form.specs.declared.header.Header.{Header}
use Rattle.acceptor_log_form.specs.declared.record.Record.{Record}
use Rattle.acceptor_log_form.specs.declared.errors.LogError.{LogError}
use Rattle.acceptor_log_form.specs.declared.errors.LogError.TheVariants.{NoMemory, Device, NotAJournal, BadRecord, OtherSource, Stopped, Full}
use Rattle.acceptor_log_form.specs.Text.{StandsBehind}
use Rattle.acceptor_log_form.specs.Reading.{records_behind}
use Rattle.acceptor_log_form.proofs.Blocks.{records_behind-drop, records_behind-stands}
use Rattle.acceptor_log_form.proofs.Texts.{size-within}
use Rattle.acceptor_log_old.specs.OldText.{old_header_size, old_header_text, are_plain, plain_only, OldStandsFor, old_listed}
use Rattle.acceptor_log_old.specs.OldFault.{IsInOldForm, HasOldFault}
use Rattle.acceptor_log_old.proofs.OldHeaders.{header-in_form, form-or_none, same_header}

plain_some : (rs : List Record) → are_plain rs ≡ true → plain_only (Some rs) ≡ Some rs
plain_some rs plain = ap (λ t. cond t (Some rs) None) plain

-- records with a summary make no list
pub summary_none : (rs : List Record) → are_plain rs ≡ false → plain_only (Some rs) ≡ None
summary_none rs other = ap (λ t. cond t (Some rs) None) other

pub old_listed-stands : (h : Header) (rs : List Record) (bytes : List ℕ) → OldStandsFor h rs bytes → old_listed h bytes ≡ Some rs
old_listed-stands h rs bytes old =
    ap plain_only (records_behind-drop (old_header_size h) bytes ∙ records_behind-stands rs (drop (old_header_size h) bytes) old.stands.records)
    ∙ plain_some rs old.plain

-- records behind the header that are not all plain make no list of an old journal
pub old_listed-none : (h : Header) (rs : List Record) (bytes behind : List ℕ) → behind ≡ drop (old_header_size h) bytes → StandsBehind rs behind → are_plain rs ≡ false
    → old_listed h bytes ≡ None
old_listed-none h rs bytes behind is stands other =
    ap plain_only (records_behind-drop (old_header_size h) bytes ∙ ap (λ (l : List ℕ). records_behind 0 l) (sym is) ∙ records_behind-stands rs behind stands)
    ∙ summary_none rs other

-- no more do bytes behind it that are no records
pub old_listed-cut : (h : Header) (bytes behind : List ℕ) → behind ≡ drop (old_header_size h) bytes → records_behind 0 behind ≡ None → old_listed h bytes ≡ None
old_listed-cut h bytes behind is none =
    ap plain_only (records_behind-drop (old_header_size h) bytes ∙ ap (λ (l : List ℕ). records_behind 0 l) (sym is) ∙ none)

pub old_stands-in_form : (h : Header) (rs : List Record) (bytes : List ℕ) → OldStandsFor h rs bytes → IsInOldForm bytes
old_stands-in_form h rs bytes old =
    header-in_form h bytes old.stands.header (size-within (old_header_size h) (old_header_text h) rs bytes old.stands)

pub old_stands-no_fault : (h : Header) (rs : List Record) (bytes : List ℕ) (e : LogError) → OldStandsFor h rs bytes → HasOldFault h bytes e → ⊥
old_stands-no_fault h rs bytes NotAJournal old fault = form-or_none bytes (old_stands-in_form h rs bytes old) fault
old_stands-no_fault h rs bytes OtherSource old fault = fault.1 old.stands.header
old_stands-no_fault h rs bytes BadRecord old fault = let some = old_listed-stands h rs bytes old in let none = fault.2 in absurd cc
old_stands-no_fault h rs bytes NoMemory old fault = fault
old_stands-no_fault h rs bytes Device old fault = fault
old_stands-no_fault h rs bytes Stopped old fault = fault
old_stands-no_fault h rs bytes Full old fault = fault

pub old_stands-one_header : (g h : Header) (xs ys : List Record) (bytes : List ℕ) → OldStandsFor g xs bytes → OldStandsFor h ys bytes → g ≡ h
old_stands-one_header g h xs ys bytes one two = same_header g h bytes one.stands.header two.stands.header
