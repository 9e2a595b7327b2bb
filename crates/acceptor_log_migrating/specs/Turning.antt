-- What a crash leaves of a pair while a new text is put down and the old one is spent.
use Rattle.std.specs.Prelude.{◌≡◌, ◌⊎◌, ℕ, List, [], ◌∷◌, ◌++◌, get_or, Result, IsErrOf}
use Rattle.durable_model_writes.specs.Writes.{overwritten, Torn}
use Rattle.durable_model.specs.declared.disk.Disk as disks
use Rattle.durable_model.specs.declared.error.DiskError.{DiskError}
use Rattle.durable_model.specs.declared.error.DiskError.TheVariants.{NoMemory}
use Rattle.durable_model.specs.Honest.{Only}
use Rattle.durable_model.specs.Moments.{LeavesOnly}
use Rattle.durable_pair.specs.declared.pair.Pair as pairs
use Rattle.durable_pair.specs.Images.{Images, IsSpent}

-- the bytes begin with a text; what stands behind it was there before
abbrev pub BeginsWith : List ℕ → List ℕ → Type 0
BeginsWith text bytes = (rest : List ℕ) × (bytes ≡ text ++ rest)

-- while the new text is put down: of the old disk what it left before
abbrev pub LeavesOld : (List ℕ → Type 0) → Images → Type 0
LeavesOld old_may im = old_may im.1

-- what it left before, torn in its first byte or not
abbrev pub TearsFirst : (List ℕ → Type 0) → List ℕ → Type 0
TearsFirst old_may c = old_may c ⊎ ((d : List ℕ) × old_may d × Torn 0 1 d c)

-- While old's first byte is set: of the new disk what it left before, and of the old one too, torn in that byte or not.
abbrev pub Spends : (List ℕ → Type 0) → (List ℕ → Type 0) → Images → Type 0
Spends new_may old_may im = new_may im.0 × TearsFirst old_may im.1

-- the bytes of an old disk, once their first is set to 0
abbrev pub spent : List ℕ → List ℕ
spent bytes = overwritten bytes 0 (0 ∷ [])

-- all along: the old disk is as it was, or counts no more, and then the new one begins with the text
abbrev pub Turns : List ℕ → List ℕ → Images → Type 0
Turns text old im = (im.1 ≡ old) ⊎ (IsSpent im.1 × BeginsWith text im.0)

-- the first byte of the old disk is C
abbrev pub BeginsAsJournal : List ℕ → Type 0
BeginsAsJournal bytes = get_or bytes 0 0 ≡ 67

module _ {P : Type 0} (disk : disks.Ghosts P) (pair : pairs.Ghosts P) where
  -- a crash at any moment of a call leaves of the old disk what it left before
  abbrev pub LeavesOnlyOld : P → P → Type 0
  LeavesOnlyOld old new = LeavesOnly disk.moment pair.both_since old new (LeavesOld (pair.old_may old))

  -- a crash at any moment of a call leaves the old disk spent, or not yet
  abbrev pub SpendsOnly : P → P → Type 0
  SpendsOnly old new = LeavesOnly disk.moment pair.both_since old new (Spends (pair.new_may old) (pair.old_may old))

  -- from an old disk that is synced and begins as a journal, a crash at any moment leaves that or the text
  abbrev pub TurnsOnly : List ℕ → P → P → Type 0
  TurnsOnly text old new =
      Only (pair.old_seen old) (pair.old_may old) → BeginsAsJournal (pair.old_seen old)
      → LeavesOnly disk.moment pair.both_since old new (Turns text (pair.old_seen old))

  -- where a call is out of memory, with an old disk that begins as a journal, the new one is as it was
  abbrev pub KeepsNew : {T : Type 0} → Result T DiskError → P → P → Type 0
  KeepsNew result old new =
      BeginsAsJournal (pair.old_seen old) → IsErrOf result NoMemory → disk.seen new ≡ disk.seen old

  -- so is the old one
  abbrev pub KeepsOld : {T : Type 0} → Result T DiskError → P → P → Type 0
  KeepsOld result old new =
      BeginsAsJournal (pair.old_seen old) → IsErrOf result NoMemory → pair.old_seen new ≡ pair.old_seen old
