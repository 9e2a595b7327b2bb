-- What a disk in memory stands for.
use Rattle.std.specs.Prelude.{◌≡◌, ◌≤◌, ℕ, List, [], ◌∷◌, ◌++◌, length, refl, ◌⊎◌, ◌<◌, ◌+◌, Result, OnOk, IsErrOf}
use Rattle.std.proofs.Common.{sym, ◌∙◌, ap, subst, arith, length-append}
use Rattle.std.proofs.lemmas.List.{nil_from_length}
use Rattle.durable_model_writes.specs.declared.call.Call.{Call}
use Rattle.durable_model.specs.declared.memory.MemoryDisk.{MemoryDisk}
use Rattle.durable_model.specs.declared.error.DiskError.{DiskError}
use Rattle.durable_model.specs.declared.error.DiskError.TheVariants.{Device, NoMemory}
use Rattle.durable_model_writes.specs.History.{noted, MayLeave, LeftSince, seen_left}

-- its calls with what they wrote, the last first
abbrev pub history : MemoryDisk → List (Call × List ℕ)
history disk = noted disk.calls.items disk.written.items []

-- what a read gives
abbrev pub seen_by_memory : MemoryDisk → List ℕ
seen_by_memory disk = disk.bytes.items

-- how many calls have failed
abbrev pub memory_faults : MemoryDisk → ℕ
memory_faults disk = disk.failures

-- how many calls were noted
abbrev pub memory_moment : MemoryDisk → ℕ
memory_moment disk = length (history disk)

-- what a crash now may leave
abbrev pub memory_may_leave : MemoryDisk → List ℕ → Type 0
memory_may_leave disk = MayLeave (history disk) disk.first.items

-- what a crash might have left since t calls were made
abbrev pub memory_left_since : MemoryDisk → ℕ → List ℕ → Type 0
memory_left_since disk = LeftSince (history disk) disk.first.items

-- no call was made, and a crash leaves what a read gives
pub record IsSettled (disk : MemoryDisk) : Type 0 where
  pub no_call : history disk ≡ []
  pub settled : disk.first.items ≡ disk.bytes.items

-- how many calls stand in the record, and how many bytes of their writes
abbrev pub calls_made : MemoryDisk → ℕ
calls_made disk = length disk.calls.items

abbrev pub bytes_noted : MemoryDisk → ℕ
bytes_noted disk = length disk.written.items

-- it can note so many calls, and so many bytes in their writes
pub record HasCapacity (calls bytes : ℕ) (disk : MemoryDisk) : Type 0 where
  pub for_calls : disk.call_capacity ≡ calls
  pub for_bytes : disk.byte_capacity ≡ bytes

-- a call that writes so many bytes is past the capacity
abbrev pub IsPastCapacity : ℕ → MemoryDisk → Type 0
IsPastCapacity bytes disk = (disk.call_capacity ≤ calls_made disk) ⊎ (disk.byte_capacity < bytes_noted disk + bytes)

-- call number n, counted from 1, is the one that is to fail, or the disk stops from it or an earlier one
abbrev pub FailsAt : ℕ → MemoryDisk → Type 0
FailsAt n disk = (disk.fails ≡ n) ⊎ ((1 ≤ disk.stops) × (disk.stops ≤ n))

-- no call is to fail, and it does not stop: there is no call 0
pub record NoneFails (disk : MemoryDisk) : Type 0 where
  pub none : disk.fails ≡ 0
  pub never : disk.stops ≡ 0

-- a call that writes so many bytes fails now: it is one of those that are to fail, or is past the capacity
abbrev pub MustFail : ℕ → MemoryDisk → Type 0
MustFail bytes disk = IsPastCapacity bytes disk ⊎ FailsAt (calls_made disk + 1) disk

-- one call more was counted, which wrote so many bytes
pub record HasCounted (bytes : ℕ) (old new : MemoryDisk) : Type 0 where
  pub calls : calls_made new ≡ calls_made old + 1
  pub written : bytes_noted new ≡ bytes_noted old + bytes

-- no call more was counted
pub record HasNotCounted (old new : MemoryDisk) : Type 0 where
  pub calls : calls_made new ≡ calls_made old
  pub written : bytes_noted new ≡ bytes_noted old

-- the same, where call number n is to fail
abbrev pub told_to_fail : MemoryDisk → ℕ → MemoryDisk
told_to_fail disk n = record disk { fails = n }

-- the same, where each call from number n on is to fail, or none if n is 0
abbrev pub told_to_stop : MemoryDisk → ℕ → MemoryDisk
told_to_stop disk n = record disk { stops = n }

-- which calls are to fail is as it was
pub record IsToldAs (old new : MemoryDisk) : Type 0 where
  pub fails_are : new.fails ≡ old.fails
  pub stops_are : new.stops ≡ old.stops

-- the capacities are as they were
abbrev pub KeepsCapacity : MemoryDisk → MemoryDisk → Type 0
KeepsCapacity old = HasCapacity old.call_capacity old.byte_capacity

-- What a call that was to write so many bytes leaves of what the next ones fail by: the capacities, and which calls are to
-- fail. It is counted, with no bytes where the device failed, unless it was past the capacity or found no memory.
pub record KeepsCount {T : Type 0} (bytes : ℕ) (result : Result T DiskError) (old new : MemoryDisk) : Type 0 where
  pub capacity : KeepsCapacity old new
  pub told : IsToldAs old new
  pub ok : OnOk result (HasCounted bytes old new)
  pub memory : IsErrOf result NoMemory → HasNotCounted old new
  pub past : IsPastCapacity bytes old → HasNotCounted old new
  pub failed : IsErrOf result Device → (IsPastCapacity bytes old → ⊥) → HasCounted 0 old new

-- it has noted this call, with what it wrote, and nothing else
pub record Notes (call : Call) (bytes : List ℕ) (old new : MemoryDisk) : Type 0 where
  pub history_is : history new ≡ (call, bytes) ∷ history old
  pub first_is : new.first.items ≡ old.first.items

-- it stands for the same as before, whatever it can note
pub record StandsAs (old new : MemoryDisk) : Type 0 where
  pub calls_are : new.calls.items ≡ old.calls.items
  pub written_are : new.written.items ≡ old.written.items
  pub first_is : new.first.items ≡ old.first.items
  pub bytes_are : new.bytes.items ≡ old.bytes.items

-- what a read gives is an image that a crash now may leave
pub left_as_kept : (disk : MemoryDisk) → MayLeave (history disk) disk.first.items disk.bytes.items
left_as_kept disk =
    subst (MayLeave (history disk) disk.first.items) (sym disk.kept) (seen_left (history disk) disk.first.items)

-- this moment is one of those since an earlier one
pub counts_as_kept : (disk : MemoryDisk) (t : ℕ) (c : List ℕ) → t ≤ length (history disk)
    → MayLeave (history disk) disk.first.items c → LeftSince (history disk) disk.first.items t c
counts_as_kept disk t c since left =
    record { later = []; earlier = history disk; whole = refl; since = since; left = left }

none_later : (later earlier : List (Call × List ℕ)) → length (later ++ earlier) ≤ length earlier → later ≡ []
none_later later earlier long = nil_from_length later (omega (arith, long, length-append later earlier))

-- since this moment there is no other
pub only_as_kept : (disk : MemoryDisk) (c : List ℕ)
    → LeftSince (history disk) disk.first.items (length (history disk)) c → MayLeave (history disk) disk.first.items c
only_as_kept disk c left =
    let long : length (left.later ++ left.earlier) ≤ length left.earlier =
    subst (λ h. length h ≤ length left.earlier) left.whole left.since in
    let none = none_later left.later left.earlier long in
    let same : history disk ≡ left.earlier = left.whole ∙ ap (λ later. later ++ left.earlier) none in
    subst (λ h. MayLeave h disk.first.items c) (sym same) left.left
