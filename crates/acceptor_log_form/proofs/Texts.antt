-- Journals as one piece: a header, blocks, a gate, and what stands behind it.
use Rattle.std.proofs.Common.{◌≡◌, ◌≢◌, ◌<◌, ℕ, List, [], ◌∷◌, ◌++◌, length, take, drop, Some, sym, ap, ◌∙◌, append_assoc, arith}
use Rattle.std.specs.Prelude.{All}
use Rattle.std.proofs.lemmas.List.{take_at, drop_at, length-append, length-take, length-drop, take-append-drop}
use Rattle.acceptor_log_form.specs.declared.header.Header.{Header}
use Rattle.acceptor_log_form.specs.declared.record.Record.{Record}
use Rattle.acceptor_log_form.specs.Text.{header_text, header_size, blocks, journal_text, Fits, StandsAs, StandsFor}
use Rattle.acceptor_log_form.specs.Reading.{listed}
use Rattle.acceptor_log_form.specs.declared.errors.LogError.{LogError}
use Rattle.acceptor_log_form.specs.declared.errors.LogError.TheVariants.{NoMemory, Device, NotAJournal, BadRecord, OtherSource, Stopped, Full}
use Rattle.acceptor_log_form.specs.Fault.{HasFault, IsInForm}
use Rattle.acceptor_log_form.proofs.Blocks.{records_behind-drop, records_behind-stands}
use Rattle.acceptor_log_form.proofs.Headers.{length-header_text, header-in_form, form-or_not, same_header}

-- what stands before the gate
abbrev pub before_gate : List ℕ → List Record → List ℕ
before_gate head rs = head ++ blocks rs

-- a closed gate behind a header and blocks
pub stands-pieces : (size : ℕ) (head : List ℕ) (rs : List Record) (gate : ℕ) (behind bytes : List ℕ) → length head ≡ size → All Fits rs → gate ≢ 1 → bytes ≡ before_gate head rs ++ gate ∷ behind → StandsAs size head rs bytes
stands-pieces size head rs gate behind bytes long fit closed are =
    let whole : bytes ≡ head ++ (blocks rs ++ gate ∷ behind) = are ∙ append_assoc head (blocks rs) (gate ∷ behind) in
    record {
      header = ap (take size) whole ∙ take_at head (blocks rs ++ gate ∷ behind) size long;
      records = record {
        gate = gate;
        behind = behind;
        closed = closed;
        fits = fit;
        text = ap (drop size) whole ∙ drop_at head (blocks rs ++ gate ∷ behind) size long;
      };
    }

-- and back
pub pieces-stand : (size : ℕ) (head : List ℕ) (rs : List Record) (bytes : List ℕ) → (stands : StandsAs size head rs bytes) → bytes ≡ before_gate head rs ++ stands.records.gate ∷ stands.records.behind
pieces-stand size head rs bytes stands =
    let r = stands.records in
    sym (take-append-drop size bytes) ∙ ap (λ (l : List ℕ). l ++ drop size bytes) stands.header ∙ ap (λ (l : List ℕ). head ++ l) r.text
    ∙ sym (append_assoc head (blocks rs) (r.gate ∷ r.behind))

-- a gate stands behind the header
pub size-within : (size : ℕ) (head : List ℕ) (rs : List Record) (bytes : List ℕ) → StandsAs size head rs bytes → size < length bytes
size-within size head rs bytes stands =
    let r = stands.records in
    omega (arith, length-drop size bytes, ap length r.text, length-append (blocks rs) (r.gate ∷ r.behind))

pub length-head_stands : (size : ℕ) (head : List ℕ) (rs : List Record) (bytes : List ℕ) → StandsAs size head rs bytes → length head ≡ size
length-head_stands size head rs bytes stands =
    omega (arith, ap length stands.header, length-take size bytes, size-within size head rs bytes stands)

-- bytes that stand for records are read as them
pub listed-stands : (h : Header) (rs : List Record) (bytes : List ℕ) → StandsFor h rs bytes → listed h bytes ≡ Some rs
listed-stands h rs bytes stands = records_behind-drop header_size bytes ∙ records_behind-stands rs (drop header_size bytes) stands.records

pub text-stands : (h : Header) (rs : List Record) → length h.digest ≡ 32 → All Fits rs → StandsFor h rs (journal_text h rs)
text-stands h rs long fit = stands-pieces header_size (header_text h) rs 0 [] (journal_text h rs) (length-header_text h long) fit (omega arith) (sym (append_assoc (header_text h) (blocks rs) (0 ∷ [])))

-- what stands for records is in form
pub stands-in_form : (h : Header) (rs : List Record) (bytes : List ℕ) → StandsFor h rs bytes → IsInForm bytes
stands-in_form h rs bytes stands = header-in_form h bytes stands.header (size-within header_size (header_text h) rs bytes stands)

-- and has no fault
pub stands-no_fault : (h : Header) (rs : List Record) (bytes : List ℕ) (e : LogError) → StandsFor h rs bytes → HasFault h bytes e → ⊥
stands-no_fault h rs bytes NotAJournal stands fault = form-or_not bytes (stands-in_form h rs bytes stands) fault
stands-no_fault h rs bytes OtherSource stands fault = fault.1 stands.header
stands-no_fault h rs bytes BadRecord stands fault = let some = listed-stands h rs bytes stands in let none = fault.2 in absurd cc
stands-no_fault h rs bytes NoMemory stands fault = fault
stands-no_fault h rs bytes Device stands fault = fault
stands-no_fault h rs bytes Stopped stands fault = fault
stands-no_fault h rs bytes Full stands fault = fault

-- they are the journal of one header
pub stands-one_header : (g h : Header) (xs ys : List Record) (bytes : List ℕ) → StandsFor g xs bytes → StandsFor h ys bytes → g ≡ h
stands-one_header g h xs ys bytes one two = same_header g h bytes one.header two.header

-- and another source's for any other
pub stands-other : (g h : Header) (rs : List Record) (bytes : List ℕ) → StandsFor g rs bytes → g ≢ h → HasFault h bytes OtherSource
stands-other g h rs bytes stands differ = (stands-in_form g rs bytes stands, λ header. differ (same_header g h bytes stands.header header))
