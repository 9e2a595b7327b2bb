-- What an honest disk does. A disk is told by what a read gives now, by what a crash now may leave, and by a clock.
use Rattle.std.specs.Prelude.{◌≡◌, ◌⊎◌, ◌<◌, ◌≤◌, ◌+◌, ◌-◌, ◌^◌, ℕ, min, List, Result, IsErrOf}
use Rattle.std.proofs.Common.{arith}
use Rattle.durable_model.specs.declared.error.DiskError.{DiskError}
use Rattle.durable_model.specs.declared.error.DiskError.TheVariants.{Device}
use Rattle.durable_model_writes.specs.Writes.{Lengthens}

-- a crash leaves this and nothing else
abbrev pub Only : List ℕ → (List ℕ → Type 0) → Type 0
Only bytes may_leave = (c : List ℕ) → may_leave c → c ≡ bytes

-- a crash leaves nothing that it might not have left before
abbrev pub NothingNew : (List ℕ → Type 0) → (List ℕ → Type 0) → Type 0
NothingNew old new = (c : List ℕ) → new c → old c

-- what a crash leaves is what it might have left before, after this step
abbrev pub Follows : (List ℕ → List ℕ → Type 0) → (List ℕ → Type 0) → (List ℕ → Type 0) → Type 0
Follows step old new = (c : List ℕ) → new c → (d : List ℕ) × old d × step d c

-- a call changed neither what a read gives nor, to more, what a crash may leave
pub record Unchanged {D : Type 0} (seen : D → List ℕ) (may_leave : D → List ℕ → Type 0) (old new : D) : Type 0 where
  pub same : seen new ≡ seen old
  pub nothing_new : NothingNew (may_leave old) (may_leave new)

-- Time goes on over a call: a crash since t might have left what it might have left before the call, or what it may
-- leave now, and what it might have left it still might. An image is that of one disk or of more at one moment.
pub record Elapses {D I : Type 0} (moment : D → ℕ) (left_since : D → ℕ → I → Type 0) (may_leave : D → I → Type 0)
    (old new : D) : Type 0 where
  pub later : moment old ≤ moment new
  pub nothing_else : (t : ℕ) (c : I) → t ≤ moment old → left_since new t c → left_since old t c ⊎ may_leave new c
  pub keeps : (t : ℕ) (c : I) → t ≤ moment old → left_since old t c → left_since new t c

-- the last number of failures, at which the count stays
abbrev pub most_failures : ℕ
most_failures = 2 ^ 64 - 1

-- the count rose, or stands at the last number
abbrev pub Risen : ℕ → ℕ → Type 0
Risen before now = min (before + 1) most_failures ≤ now

-- A write of n bytes that may be out of memory: one of more than one byte, or one that makes the disk longer. A byte that
-- the disk has can be written without.
abbrev pub MayWantMemory : ℕ → ℕ → List ℕ → Type 0
MayWantMemory at n old = (1 < n) ⊎ Lengthens at n old

-- a call that answers `Device` is counted, and no other
pub record Counts {T : Type 0} (result : Result T DiskError) (before now : ℕ) : Type 0 where
  pub later : before ≤ now
  pub device : IsErrOf result Device → now ≡ min (before + 1) most_failures
  pub others : (IsErrOf result Device → ⊥) → now ≡ before

-- a count that rose in a part of a run rose in the run
pub risen_within : (a b c d : ℕ) → a ≤ b → Risen b c → c ≤ d → Risen a d
risen_within a b c d first rise last = grind (arith, first, rise, last)
