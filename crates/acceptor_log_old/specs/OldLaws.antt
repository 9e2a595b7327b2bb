-- What holds of all texts of old journals.
use Rattle.std.specs.Prelude.{◌≡◌, ◌*◌, ℕ, List, get_or}
use Rattle.acceptor_log_form.specs.declared.header.Header.{Header}
use Rattle.acceptor_log_form.specs.declared.record.Record.{Record}
use Rattle.acceptor_log_form.specs.declared.errors.LogError.{LogError}
use Rattle.acceptor_log_form.specs.declared.errors.LogError.TheVariants.{OtherSource}
use Rattle.acceptor_log_old.specs.OldText.{OldStandsFor}
use Rattle.acceptor_log_old.specs.OldFault.{IsFirst, HasOldFault}

-- bytes are the old journal of one header
abbrev pub OldJournalsHaveOneHeader : Type 0
OldJournalsHaveOneHeader = (g h : Header) (xs ys : List Record) (bytes : List ℕ) → OldStandsFor g xs bytes → OldStandsFor h ys bytes → g ≡ h

-- what stands for records has no fault
abbrev pub OldJournalsHaveNoFault : Type 0
OldJournalsHaveNoFault = (h : Header) (rs : List Record) (bytes : List ℕ) (e : LogError) → OldStandsFor h rs bytes → HasOldFault h bytes e → ⊥

-- the first form with an even number of nodes is another source's
abbrev pub EvenNodesAreRefused : Type 0
EvenNodesAreRefused = (h : Header) (half : ℕ) (bytes : List ℕ) → IsFirst bytes → get_or bytes 4 0 ≡ 2 * half → HasOldFault h bytes OtherSource
