-- What holds of all texts of journals.
use Rattle.std.specs.Prelude.{◌≢◌, ◌⊎◌, ℕ, List, [], ◌∷◌, ◌++◌}
use Rattle.acceptor_log_form.specs.declared.header.Header.{Header}
use Rattle.acceptor_log_form.specs.declared.record.Record.{Record}
use Rattle.acceptor_log_form.specs.declared.errors.LogError.{LogError}
use Rattle.acceptor_log_form.specs.declared.errors.LogError.TheVariants.{OtherSource}
use Rattle.acceptor_log_form.specs.Fault.{HasFault}
use Rattle.acceptor_log_form.specs.Lists.{Begins, Between}
use Rattle.acceptor_log_form.specs.Text.{StandsFor}

-- the journal of one header is, under any other, another source's
abbrev pub OthersAreRefused : Type 0
OthersAreRefused = (g h : Header) (rs : List Record) (bytes : List ℕ) → StandsFor g rs bytes → g ≢ h → HasFault h bytes OtherSource

-- what stands for records has no fault
abbrev pub JournalsHaveNoFault : Type 0
JournalsHaveNoFault = (h : Header) (rs : List Record) (bytes : List ℕ) (e : LogError) → StandsFor h rs bytes → HasFault h bytes e → ⊥

-- between two lists a list is read that begins with the first and begins the second
abbrev pub ReadsBetween : Type 0
ReadsBetween = (h : Header) (low high rs : List Record) (bytes : List ℕ) → Between h low high bytes → StandsFor h rs bytes → Begins low rs × Begins rs high

-- and nothing is refused there
abbrev pub BetweenHasNoFault : Type 0
BetweenHasNoFault = (h : Header) (low high : List Record) (bytes : List ℕ) (e : LogError) → Between h low high bytes → HasFault h bytes e → ⊥

-- between a list and that with one record more there is no third
abbrev pub WithOrWithout : Type 0
WithOrWithout = (h : Header) (rs : List Record) (r : Record) (bytes : List ℕ) → Between h rs (rs ++ r ∷ []) bytes → StandsFor h rs bytes ⊎ StandsFor h (rs ++ r ∷ []) bytes
