-- One of two lists of records, by which the crash clauses of records that are put down at once are stated.
use Rattle.std.specs.Prelude.{◌⊎◌, ℕ, List}
use Rattle.acceptor_log_form.specs.declared.header.Header.{Header}
use Rattle.acceptor_log_form.specs.declared.record.Record.{Record}
use Rattle.acceptor_log_form.specs.Lists.{Begins, Between}
use Rattle.acceptor_log_form.specs.Text.{StandsFor}

-- the bytes are a journal with this header, of just one of the two lists
abbrev pub Either : Header → List Record → List Record → List ℕ → Type 0
Either h low high bytes = StandsFor h low bytes ⊎ StandsFor h high bytes

-- where the one begins the other they are between them
abbrev pub EitherIsBetween : Type 0
EitherIsBetween = (h : Header) (low high : List Record) (bytes : List ℕ) → Begins low high → Either h low high bytes → Between h low high bytes
