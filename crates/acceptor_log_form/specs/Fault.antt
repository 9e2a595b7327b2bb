-- Why bytes are not the journal with a header: the first fault in their order.
use Rattle.std.specs.Prelude.{◌≡◌, ◌≢◌, ◌⊎◌, ℕ, ◌<◌, ◌≤◌, List, [], ◌∷◌, length, take, None}
use Rattle.acceptor_log_form.specs.declared.header.Header.{Header}
use Rattle.acceptor_log_form.specs.declared.errors.LogError.{LogError}
use Rattle.acceptor_log_form.specs.declared.errors.LogError.TheVariants.{NoMemory, Device, NotAJournal, BadRecord, OtherSource, Stopped, Full}
use Rattle.acceptor_log_form.specs.Text.{header_size, header_text}
use Rattle.acceptor_log_form.specs.Reading.{listed}

-- the bytes CFJ2
abbrev pub magic : List ℕ
magic = 0x43 ∷ 0x46 ∷ 0x4a ∷ 0x32 ∷ []

-- Whatever header is asked for: a header and a gate at least, and the bytes CFJ2 first.
abbrev pub IsInForm : List ℕ → Type 0
IsInForm bytes = (41 ≤ length bytes) × (take 4 bytes ≡ magic)

-- too short, or other first bytes
abbrev pub IsNotInForm : List ℕ → Type 0
IsNotInForm bytes = (length bytes < 41) ⊎ (take 4 bytes ≢ magic)

-- No journal: not in form. Another source: another header, so other sizes of quorums too. A bad record: the header is this
-- one, and what stands behind it is no list of records.
abbrev pub HasFault : Header → List ℕ → LogError → Type 0
HasFault h bytes NotAJournal = IsNotInForm bytes
HasFault h bytes OtherSource = IsInForm bytes × (take header_size bytes ≢ header_text h)
HasFault h bytes BadRecord = IsInForm bytes × (take header_size bytes ≡ header_text h) × (listed h bytes ≡ None)
HasFault h bytes NoMemory = ⊥
HasFault h bytes Device = ⊥
HasFault h bytes Stopped = ⊥
HasFault h bytes Full = ⊥

-- Memory was wanted, or it is this fault, for this reason.
abbrev pub IsMemoryOr : LogError → Type 0 → LogError → Type 0
IsMemoryOr fault reason e = e ≢ NoMemory → (e ≡ fault) × reason
