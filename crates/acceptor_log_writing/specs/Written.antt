-- What is written for records that are put down behind a gate, and the bytes of a journal then.
use Rattle.std.specs.Prelude.{◌≡◌, ◌⊎◌, ℕ, ◌<◌, ◌+◌, List, [], ◌∷◌, ◌++◌, length, All}
use Rattle.durable_model_writes.specs.Writes.{overwritten, Torn}
use Rattle.acceptor_log_form.specs.declared.header.Header.{Header}
use Rattle.acceptor_log_form.specs.declared.record.Record.{Record}
use Rattle.acceptor_log_form.specs.Text.{header_size, block_text, blocks, journal_text, Fits}

-- what a crash leaves while so many bytes are written from `at` on: what it left before, torn there or not
abbrev pub MayTear : (List ℕ → Type 0) → ℕ → ℕ → List ℕ → Type 0
MayTear old at n c = old c ⊎ ((d : List ℕ) × old d × Torn at n d c)

-- what is written for records behind a gate: their blocks, the gates between them open, and a next gate, closed
pub record AreBlocks (qs : List Record) (block : List ℕ) : Type 0 where
  pub fit : All Fits qs
  pub text : 1 ∷ block ≡ blocks qs ++ 0 ∷ []

-- with these records behind the gate at `gate` the file would pass the most bytes that it may have
abbrev pub IsOver : ℕ → List Record → Type 0
IsOver gate qs = 4294967295 < gate + 1 + length (blocks qs)

-- the bytes, once these stand behind the gate at `gate`, and it is open
abbrev pub with_block : List ℕ → ℕ → List ℕ → List ℕ
with_block bytes gate block = overwritten (overwritten bytes (gate + 1) block) gate (1 ∷ [])

-- the bytes, once a record is put down behind the gate at `gate`: its block and a closed gate, and then that gate open
abbrev pub with_record : List ℕ → ℕ → Record → List ℕ
with_record bytes gate r = with_block bytes gate (block_text r ++ 0 ∷ [])

-- what is written of records that are put down at once behind a gate: the first one's block, those of the others behind
-- open gates, and a closed gate; of none nothing
abbrev pub behind_gate : List Record → List ℕ
behind_gate [] = []
behind_gate (r ∷ rs) = block_text r ++ (blocks rs ++ 0 ∷ [])

-- the bytes, once they are put down so, and the gate is open
abbrev pub with_records : List ℕ → ℕ → List Record → List ℕ
with_records bytes gate [] = bytes
with_records bytes gate (r ∷ rs) = with_block bytes gate (behind_gate (r ∷ rs))

-- the bytes, once a journal of no records is put down at their front
abbrev pub with_journal : Header → List ℕ → List ℕ
with_journal h bytes = overwritten bytes 0 (journal_text h [])

-- one record more makes the text of the list with it
abbrev pub TextGrows : Type 0
TextGrows =
    (h : Header) (rs : List Record) (r : Record) → length h.digest ≡ 32 → All Fits rs → Fits r
    → with_record (journal_text h rs) (header_size + length (blocks rs)) r ≡ journal_text h (rs ++ r ∷ [])

-- and so many more the text of the list with all of them
abbrev pub TextGrowsByAll : Type 0
TextGrowsByAll =
    (h : Header) (rs qs : List Record) → length h.digest ≡ 32 → All Fits rs → All Fits qs
    → with_records (journal_text h rs) (header_size + length (blocks rs)) qs ≡ journal_text h (rs ++ qs)
