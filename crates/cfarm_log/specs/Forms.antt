-- The versions of a journal: what each has, and what opening says of it.
use Rattle.std.specs.Prelude.{◌≡◌, ℕ, List, Bool, true}
use Rattle.acceptor_log_form.specs.declared.header.Header.{Header}
use Rattle.acceptor_log_form.specs.declared.record.Record.{Record}
use Rattle.acceptor_log_form.specs.declared.errors.LogError.{LogError}
use Rattle.acceptor_log_form.specs.Text.{header_size, header_text, StandsFor}
use Rattle.acceptor_log_form.specs.Fault.{IsInForm, HasFault}
use Rattle.acceptor_log_old.specs.OldText.{old_header_size, old_header_text, is_plain, are_plain, OldStandsFor}
use Rattle.acceptor_log_old.specs.OldFault.{IsInOldForm, HasOldFault}
use Rattle.cfarm_log.specs.declared.version.Version.{Version}
use Rattle.cfarm_log.specs.declared.version.Version.TheVariants.{Old, New}

abbrev pub version_number : Version → ℕ
version_number Old = 1
version_number New = 2

-- the bytes of a header, and how many they are
abbrev pub header_bytes_of : Version → Header → List ℕ
header_bytes_of Old h = old_header_text h
header_bytes_of New h = header_text h

abbrev pub header_size_of : Version → Header → ℕ
header_size_of Old h = old_header_size h
header_size_of New h = header_size

abbrev pub IsOfVersion : Version → List ℕ → Type 0
IsOfVersion Old = IsInOldForm
IsOfVersion New = IsInForm

-- the old one has no summary
abbrev pub has_version : Version → Record → Bool
has_version Old r = is_plain r
has_version New r = true

abbrev pub all_had : Version → List Record → Bool
all_had Old rs = are_plain rs
all_had New rs = true

-- opening it as the journal with this header lists these records
abbrev pub OpensAs : Version → Header → List Record → List ℕ → Type 0
OpensAs Old = OldStandsFor
OpensAs New = StandsFor

-- opening it as the journal with this header is refused so
abbrev pub IsRefusedAs : Version → Header → List ℕ → LogError → Type 0
IsRefusedAs Old = HasOldFault
IsRefusedAs New = HasFault
