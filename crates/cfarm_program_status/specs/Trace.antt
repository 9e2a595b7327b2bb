-- What is seen of a call from outside: the files, the output, the lines for a user, and the exit status.
use Rattle.std.specs.Prelude.{ℕ}
use Rattle.std.specs.Borrow.{MutBor}
use denote.Triple.Both.{Both}
use Rattle.cfarm_output.specs.declared.paced.Paced.{Paced}

-- a value behind a `&mut`, as a call finds it, at `entry`, and as it leaves it, at `exit`
abbrev pub Changed : Type 0 → Type 0
Changed X = Both (MutBor X) (MutBor X)

-- what a user is shown: the exit status, and what was written to the output and to the lines for a user
pub record Shown (W E : Type 0) : Type 0 where
  pub status : ℕ
  pub out : Changed (Paced W)
  pub err : Changed E

-- the same, and what became of the files
pub record Trace (F W E : Type 0) : Type 0 where
  pub files : Changed F
  pub shows : Shown W E

-- a call shows this with its result and its writers
abbrev pub shown : {W E : Type 0} → ℕ → Changed (Paced W) → Changed E → Shown W E
shown status out err = record { status = status; out = out; err = err }

-- with its files this is what is seen of it
abbrev pub trace : {F W E : Type 0} → ℕ → Changed F → Changed (Paced W) → Changed E → Trace F W E
trace status files out err = record { files = files; shows = shown status out err }
