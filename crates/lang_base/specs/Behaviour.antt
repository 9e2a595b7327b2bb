-- What a program does, as what its run shows at each bound (Leroy 2009, section 2.1, with a bound in the place of a trace).
use Rattle.std.specs.Prelude.{◌≡◌, ◌≢◌, ℕ, ◌+◌, List, ◌++◌}
use Rattle.lang_base.specs.declared.shown.Shown.{Shown}
use Rattle.lang_base.specs.declared.shown.Shown.TheVariants.{Running, Ended, Wrong}

-- whether the run is over at a bound, and the bytes that it has printed by then
pub record Shows : Type 0 where
  pub shown : Shown
  pub output : List ℕ

-- what a run shows at each bound
abbrev pub Behaviour : Type 0
Behaviour = ℕ → Shows

-- xs is a beginning of ys, and may be all of it
abbrev pub IsBeginningOf : List ℕ → List ℕ → Type 0
IsBeginningOf xs ys = (rest : List ℕ) × (xs ++ rest ≡ ys)

-- what may follow at the next bound: while a run goes on its output only grows, and an end or a fault stays
abbrev pub GoesOnTo : Shown → Shows → Shows → Type 0
GoesOnTo Running now next = IsBeginningOf now.output next.output
GoesOnTo (Ended result) now next = next ≡ now
GoesOnTo Wrong now next = next ≡ now

-- a behaviour that a run can have
abbrev pub IsRun : Behaviour → Type 0
IsRun a = (n : ℕ) → GoesOnTo (a n).shown (a n) (a (n + 1))

-- the run goes wrong at no bound
abbrev pub NeverWrong : Behaviour → Type 0
NeverWrong a = (n : ℕ) → (a n).shown ≢ Wrong

-- at some bound the run has ended with this result, having printed this
abbrev pub EndsWith : Behaviour → List ℕ → ℕ → Type 0
EndsWith a output result = (n : ℕ) × (a n ≡ record { shown = Ended result; output = output })
