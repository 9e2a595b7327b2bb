-- What is found of an old journal's records on the way to the new text.
use Rattle.std.specs.Prelude.{◌≡◌, ℕ, ◌+◌, List, ◌++◌, All, length}
use Rattle.acceptor_log_form.specs.declared.header.Header.{Header}
use Rattle.acceptor_log_form.specs.declared.record.Record.{Record}
use Rattle.acceptor_log_form.specs.Text.{header_size, header_text, blocks, journal_text, Fits}
use Rattle.acceptor_log_translating.specs.declared.translating.Text.{Text}

-- so many records were written behind what was there
pub record IsAdded (before after : List ℕ) (rs : List Record) (n : ℕ) : Type 0 where
  pub text : after ≡ before ++ blocks rs
  pub counted : n ≡ length rs
  pub fits : All Fits rs

-- the text is that of the journal with these records
pub record IsMigratedText (h : Header) (rs : List Record) (text : Text) : Type 0 where
  pub bytes_are : text.bytes.items ≡ journal_text h rs
  pub head : length (header_text h) ≡ header_size
  pub fits : All Fits rs
  pub counted : text.count ≡ length rs
  pub at_gate : text.gate ≡ header_size + length (blocks rs)
