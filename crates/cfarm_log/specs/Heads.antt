-- The header that the first bytes of a journal are.
use Rattle.std.specs.Prelude.{◌≡◌, ℕ, List, ◌++◌, length}
use Rattle.acceptor_log_form.specs.declared.header.Header.{Header}
use Rattle.acceptor_log_form.specs.declared.errors.LogError.TheVariants.{BadRecord, NotAJournal, OtherSource}
use Rattle.acceptor_log_form.specs.declared.errors.LogError.{LogError}
use Rattle.acceptor_log_form.specs.Fault.{IsNotInForm}
use Rattle.acceptor_log_old.specs.OldFault.{IsInNoOldForm, HasOldFault}
use Rattle.cfarm_log.specs.declared.version.Version.{Version}
use Rattle.cfarm_log.specs.declared.head.HeadFault.{HeadFault}
use Rattle.cfarm_log.specs.declared.head.HeadFault.TheVariants as head
use Rattle.cfarm_log.specs.Forms.{header_bytes_of, header_size_of, IsOfVersion}

-- the bytes are of this version's form: the header's bytes, and what stands behind them
pub record IsHead (v : Version) (h : Header) (bytes behind : List ℕ) : Type 0 where
  pub form : IsOfVersion v bytes
  pub text : bytes ≡ header_bytes_of v h ++ behind
  pub size : length (header_bytes_of v h) ≡ header_size_of v h

-- they are of no form, or of one in which no header has such a number of nodes
abbrev pub HasNoHead : List ℕ → HeadFault → Type 0
HasNoHead bytes head.NotAJournal = IsNotInForm bytes × IsInNoOldForm bytes
HasNoHead bytes head.EvenNodes = IsNotInForm bytes × ((h : Header) → HasOldFault h bytes OtherSource)
