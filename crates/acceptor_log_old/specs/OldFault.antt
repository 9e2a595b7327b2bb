-- Why bytes are not the old journal with a header: the first fault in their order.
use Rattle.std.specs.Prelude.{◌≡◌, ◌≢◌, ◌⊎◌, ℕ, ◌<◌, ◌≤◌, List, [], ◌∷◌, length, take, get_or, None, Bool, IsTrue, IsFalse}
use Rattle.acceptor_log_form.specs.declared.header.Header.{Header}
use Rattle.acceptor_log_form.specs.declared.errors.LogError.{LogError}
use Rattle.acceptor_log_form.specs.declared.errors.LogError.TheVariants.{NoMemory, Device, NotAJournal, BadRecord}
use Rattle.acceptor_log_form.specs.declared.errors.LogError.TheVariants.{OtherSource, Stopped, Full}
use Rattle.acceptor_log_old.specs.OldText.{belong_to_first, old_header_size, old_header_text, old_listed}

-- the bytes CFJ1
abbrev pub first_magic : List ℕ
first_magic = 0x43 ∷ 0x46 ∷ 0x4a ∷ 0x31 ∷ []

-- the bytes CFJF
abbrev pub second_magic : List ℕ
second_magic = 0x43 ∷ 0x46 ∷ 0x4a ∷ 0x46 ∷ []

-- the number of nodes and the two sizes that stand behind CFJF belong to the first form
abbrev pub tells_first_sizes : List ℕ → Bool
tells_first_sizes bytes = belong_to_first (get_or bytes 4 0) (get_or bytes 5 0) (get_or bytes 6 0)

-- a header of the first form and a gate at least
pub record IsFirst (bytes : List ℕ) : Type 0 where
  pub long : 39 ≤ length bytes
  pub begins : take 4 bytes ≡ first_magic

-- a header of the second form, with sizes that do not belong to the first, and a gate at least
pub record IsSecond (bytes : List ℕ) : Type 0 where
  pub long : 41 ≤ length bytes
  pub begins : take 4 bytes ≡ second_magic
  pub sizes : IsFalse (tells_first_sizes bytes)

-- Whatever header is asked for: the first bytes tell the form.
abbrev pub IsInOldForm : List ℕ → Type 0
IsInOldForm bytes = IsFirst bytes ⊎ IsSecond bytes

-- Neither form: too short for the first; or other first bytes; or CFJF, and too short for the second form or with sizes that
-- belong to the first.
abbrev pub IsInNoOldForm : List ℕ → Type 0
IsInNoOldForm bytes =
    (length bytes < 39)
    ⊎ ((take 4 bytes ≢ first_magic) × (take 4 bytes ≢ second_magic))
    ⊎ ((take 4 bytes ≡ second_magic) × ((length bytes < 41) ⊎ IsTrue (tells_first_sizes bytes)))

-- No journal: neither form. Another source: another header, so other sizes too, and CFJ1 with an even number of nodes, which
-- no header is written as. A bad record: the header is this one, and what stands behind it is no list of records, or one with
-- a summary.
abbrev pub HasOldFault : Header → List ℕ → LogError → Type 0
HasOldFault h bytes NotAJournal = IsInNoOldForm bytes
HasOldFault h bytes OtherSource = IsInOldForm bytes × (take (old_header_size h) bytes ≢ old_header_text h)
HasOldFault h bytes BadRecord = IsInOldForm bytes × (take (old_header_size h) bytes ≡ old_header_text h) × (old_listed h bytes ≡ None)
HasOldFault h bytes NoMemory = ⊥
HasOldFault h bytes Device = ⊥
HasOldFault h bytes Stopped = ⊥
HasOldFault h bytes Full = ⊥
