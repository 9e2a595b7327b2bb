-- What it is for native code to be safe. The machine is stuck where nothing is defined: a cell is reached that no global and no frame has,
-- a word is taken for a way back or a way back for a word, a label or a function is missing, the code ends, nothing was compared, or the
-- processor would fault.
use Rattle.std.specs.Prelude.{◌≢◌, ℕ, Option}
use Rattle.lang_base.specs.declared.program.Program.{Program}
use Rattle.x86_syntax.specs.declared.function.Function.{Function}
use Rattle.x86_state.specs.declared.shown.Shown.TheVariants.{Stuck}
use Rattle.x86.specs.Meaning.{native}
use Rattle.native_lowering_safe_words.specs.InWords.{AreDrawn}

-- Whatever words are drawn for what is left open, and whatever room the stack has: no run is stuck after any number of instructions.
abbrev pub IsSafe : Program Function → Type 0
IsSafe p = (junk : ℕ → ℕ) → AreDrawn junk → (room : Option ℕ) (n : ℕ) → (native p junk room n).shown ≢ Stuck
