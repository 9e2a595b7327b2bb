-- What a run with a bound on the stack shows, against one without.
use Rattle.std.specs.Prelude.{◌≡◌, ◌⊎◌, ℕ, Option, None}
use Rattle.lang_base.specs.Behaviour.{IsBeginningOf}
use Rattle.lang_base.specs.declared.program.Program.{Program}
use Rattle.x86_syntax.specs.declared.function.Function.{Function}
use Rattle.x86_state.specs.declared.shown.Shown.TheVariants.{Full}
use Rattle.x86_state.specs.Shows.{Shows}
use Rattle.x86.specs.Meaning.{native}

-- full, behind a beginning of the other's output
pub record IsFull (with without : Shows) : Type 0 where
  pub shown : with.shown ≡ Full
  pub output : IsBeginningOf with.output without.output

-- the same, or full
abbrev pub SameOrFull : Shows → Shows → Type 0
SameOrFull with without = (with ≡ without) ⊎ IsFull with without

-- at each bound, with any room
abbrev pub KeepsInRoom : Program Function → Type 0
KeepsInRoom p = (junk : ℕ → ℕ) (room : Option ℕ) (n : ℕ) → SameOrFull (native p junk room n) (native p junk None n)
