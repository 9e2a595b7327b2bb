-- The records behind a header, up to the closed gate or to the first fault.
use Rattle.std.specs.Prelude.{◌≡◌, ◌≢◌, ◌⊎◌, ℕ, List, [], ◌∷◌, ◌++◌, length, All, true, false, if◌then◌else◌, Option, Some, None}
use Rattle.acceptor_log_form.specs.declared.record.Record.{Record}
use Rattle.acceptor_log_form.specs.Text.{blocks, Fits}
use Rattle.acceptor_log_form.specs.Reading.{first_record}
use Rattle.cfarm_log.specs.declared.version.Version.{Version}
use Rattle.cfarm_log.specs.declared.front.Front.{Front}
use Rattle.cfarm_log.specs.Forms.{all_had, has_version}

abbrev pub if_had : Version → Option Record → Option Record
if_had v None = None
if_had v (Some r) = if has_version v r then Some r else None

-- the record of the block that the bytes begin with, where it is one of this version
abbrev pub record_had : Version → List ℕ → Option Record
record_had v bytes = if_had v (first_record bytes)

-- what is left begins with a closed gate
abbrev pub IsAtEnd : List ℕ → Type 0
IsAtEnd rest = (gate : ℕ) × (behind : List ℕ) × (rest ≡ gate ∷ behind) × (gate ≢ 1)

-- it has no gate, or an open one with no record behind it
abbrev pub IsCut : Version → List ℕ → Type 0
IsCut v rest = (rest ≡ []) ⊎ ((behind : List ℕ) × (rest ≡ 1 ∷ behind) × (record_had v behind ≡ None))

-- bytes are the blocks of these records of this version, each behind an open gate, and what is left
pub record IsFront (v : Version) (rs : List Record) (rest bytes : List ℕ) : Type 0 where
  pub fits : All Fits rs
  pub had : all_had v rs ≡ true
  pub text : bytes ≡ blocks rs ++ rest

-- the records were read of the bytes, and there they end or are cut
pub record HasFront (v : Version) (bytes : List ℕ) (found : Front) : Type 0 where
  pub rest : List ℕ
  pub front : IsFront v found.records.items rest bytes
  pub place : found.gate ≡ length (blocks found.records.items)
  pub at_end : found.ends ≡ true → IsAtEnd rest
  pub at_cut : found.ends ≡ false → IsCut v rest
