-- Lists of records between two others, by which the crash clauses are stated.
use Rattle.std.specs.Prelude.{◌≡◌, ℕ, List, ◌++◌}
use Rattle.acceptor_log_form.specs.declared.header.Header.{Header}
use Rattle.acceptor_log_form.specs.declared.record.Record.{Record}
use Rattle.acceptor_log_form.specs.Text.{header_size, header_text, StandsAs}

-- xs is a front of ys, and may be all of it
abbrev pub Begins : List Record → List Record → Type 0
Begins xs ys = (rest : List Record) × (ys ≡ xs ++ rest)

-- the bytes stand behind such a header for a list that has all of low, and none that high has not
pub record BetweenAs (size : ℕ) (head : List ℕ) (low high : List Record) (bytes : List ℕ) : Type 0 where
  pub records : List Record
  pub stands : StandsAs size head records bytes
  pub all_of_low : Begins low records
  pub none_else : Begins records high

-- the bytes are a journal with this header, of a list that has all of low, and none that high has not
abbrev pub Between : Header → List Record → List Record → List ℕ → Type 0
Between h = BetweenAs header_size (header_text h)
