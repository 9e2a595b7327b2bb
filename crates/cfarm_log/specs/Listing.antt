-- What is listed of the bytes of a journal.
use Rattle.std.specs.Prelude.{◌≡◌, ◌⊎◌, ℕ, ◌+◌, List, [], ◌++◌, length, Option}
use Rattle.std.specs.Io.KnownBytes.{Appends}
use Rattle.acceptor_log_form.specs.declared.header.Header.{Header}
use Rattle.acceptor_log_form.specs.declared.record.Record.{Record}
use Rattle.acceptor_log_form.specs.declared.errors.LogError.{LogError}
use Rattle.acceptor_log_form.specs.declared.errors.LogError.TheVariants as log
use Rattle.acceptor_log_form.specs.Text.{blocks}
use Rattle.acceptor_log_form.specs.Fault.{IsNotInForm}
use Rattle.acceptor_log_old.specs.OldFault.{IsInNoOldForm, HasOldFault}
use Rattle.cfarm_output.specs.Begun.{IsBegun}
use Rattle.cfarm_log_lines.specs.Lines.{end_line, head_line, record_lines}
use Rattle.cfarm_log.specs.declared.version.Version.{Version}
use Rattle.cfarm_log.specs.declared.error.ListingError.{ListingError}
use Rattle.cfarm_log.specs.declared.error.ListingError.TheVariants.{NoMemory, Journal, Write}
use Rattle.cfarm_log.specs.Forms.{header_size_of, version_number, IsRefusedAs, OpensAs}
use Rattle.cfarm_log.specs.Heads.{IsHead}
use Rattle.cfarm_log.specs.Fronts.{IsCut, IsFront}

-- the line of the header
abbrev pub header_line : Version → Header → List ℕ
header_line v h = head_line (version_number v) h

-- that, and the lines of records
abbrev pub lines_to : Version → Header → List Record → List ℕ
lines_to v h rs = header_line v h ++ record_lines rs

-- a beginning of those was printed
abbrev pub AreLinesBegun : Version → Header → List Record → Option (List ℕ) → Option (List ℕ) → Type 0
AreLinesBegun v h rs before after = IsBegun (lines_to v h rs) before after

-- where the gate behind these records stands
abbrev pub gate_behind : Version → Header → List Record → ℕ
gate_behind v h rs = header_size_of v h + length (blocks rs)

-- The bytes are a journal, and all that opening lists is in these lines: its records, and nothing that stands behind its closed gate.
pub record IsListedAs (bytes text : List ℕ) : Type 0 where
  pub version : Version
  pub header : Header
  pub records : List Record
  pub opens : OpensAs version header records bytes
  pub lines : text ≡ lines_to version header records ++ end_line (length records) (gate_behind version header records + 1)

-- The bytes have a journal's header, and their records are cut at this byte, which is where a gate is missing or the gate in front of
-- what is no record; these lines have all records before it. Opening them with that header is refused.
pub record IsCutAt (bytes : List ℕ) (place : ℕ) (text : List ℕ) : Type 0 where
  pub version : Version
  pub header : Header
  pub records : List Record
  pub behind : List ℕ
  pub rest : List ℕ
  pub refused : IsRefusedAs version header bytes log.BadRecord
  pub head : IsHead version header bytes behind
  pub front : IsFront version records rest behind
  pub cut : IsCut version rest
  pub at_gate : place ≡ gate_behind version header records
  pub lines : text ≡ lines_to version header records

-- The first fault of the bytes, its byte, and the lines of what stands before it. With whatever header they are opened, bytes of no form are no
-- journal, and those of the first form with an even number of nodes are another source's.
abbrev pub HasFirstFault : List ℕ → LogError → ℕ → List ℕ → Type 0
HasFirstFault bytes log.NotAJournal place text = IsNotInForm bytes × IsInNoOldForm bytes × (place ≡ 0) × (text ≡ [])
HasFirstFault bytes log.OtherSource place text =
    IsNotInForm bytes × ((h : Header) → HasOldFault h bytes log.OtherSource) × (place ≡ 4) × (text ≡ [])
HasFirstFault bytes log.BadRecord place text = IsCutAt bytes place text
HasFirstFault bytes log.NoMemory place text = ⊥
HasFirstFault bytes log.Device place text = ⊥
HasFirstFault bytes log.Stopped place text = ⊥
HasFirstFault bytes log.Full place text = ⊥

-- all was printed
abbrev pub IsListed : List ℕ → Option (List ℕ) → Option (List ℕ) → Type 0
IsListed bytes before after = (text : List ℕ) × IsListedAs bytes text × Appends before after text

-- a beginning of what is listed was printed, and it may be nothing
abbrev pub IsInPart : List ℕ → Option (List ℕ) → Option (List ℕ) → Type 0
IsInPart bytes before after =
    Appends before after []
    ⊎ ((text : List ℕ) × (IsListedAs bytes text ⊎ ((place : ℕ) × IsCutAt bytes place text)) × IsBegun text before after)

-- it was told why not
abbrev pub IsStoppedAt : List ℕ → ListingError → Option (List ℕ) → Option (List ℕ) → Type 0
IsStoppedAt bytes NoMemory before after = IsInPart bytes before after
IsStoppedAt bytes (Journal fault place) before after = (text : List ℕ) × HasFirstFault bytes fault place text × Appends before after text
IsStoppedAt bytes Write before after = IsInPart bytes before after
