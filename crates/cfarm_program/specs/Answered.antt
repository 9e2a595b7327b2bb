-- What a user is shown where the words of a command line ask for help or the version, or where they are wrong.
use Rattle.std.specs.Prelude.{◌≡◌, ◌≢◌, ◌⊎◌, ℕ, List, Option}
use Rattle.std.specs.Io.KnownBytes.{Appends}
use Rattle.clap.specs.Words.{kind_of}
use Rattle.clap.specs.declared.error.Error.{Error}
use Rattle.clap.specs.declared.error.kind.ErrorKind.{ErrorKind}
use Rattle.clap.specs.declared.error.kind.ErrorKind.TheVariants.{DisplayHelp, DisplayVersion, OutOfMemory}
use Rattle.cfarm_output.specs.Begun.{IsBegun}
use Rattle.cfarm_output.specs.Errors.{ErrorsHeld}
use Rattle.cfarm_program_status.specs.Telling.{IsShown, IsToldAs, no_memory, unwritten}
use Rattle.cfarm_program_status.specs.Trace.{Shown}

-- help or the version is asked for
abbrev pub IsHelp : ErrorKind → Type 0
IsHelp kind = (kind ≡ DisplayHelp) ⊎ (kind ≡ DisplayVersion)

-- With an output and lines for a user, of what a call shows.
module _ {W E : Type 0} (contents : W → Option (List ℕ)) (errors : E → ErrorsHeld) (s : Shown W E) where
  -- nothing is printed
  abbrev pub IsUnprinted : Type 0
  IsUnprinted = contents s.out.exit.now.taker ≡ contents s.out.entry.now.taker

  -- the text is printed with the status 0, and nothing told; or a beginning of it, and it is told that the rest could not be written
  abbrev pub IsHelpPrinted : List ℕ → Type 0
  IsHelpPrinted text =
      ((s.status ≡ 0) × Appends (contents s.out.entry.now.taker) (contents s.out.exit.now.taker) text × (errors s.err.exit.now ≡ errors s.err.entry.now))
      ⊎ (IsBegun text (contents s.out.entry.now.taker) (contents s.out.exit.now.taker)
      × IsToldAs unwritten s.status (errors s.err.entry.now) (errors s.err.exit.now))

  -- the text is told with the status 2, or standard error failed; nothing is printed
  abbrev pub IsMistakeTold : List ℕ → Type 0
  IsMistakeTold text = IsUnprinted × IsShown text 2 s.status (errors s.err.entry.now) (errors s.err.exit.now)

  -- it is told that memory was refused; nothing is printed
  abbrev pub IsMemoryTold : Type 0
  IsMemoryTold = IsUnprinted × IsToldAs no_memory s.status (errors s.err.entry.now) (errors s.err.exit.now)

  -- help is printed, and a mistake is told
  abbrev pub IsTextShown : ErrorKind → List ℕ → Type 0
  IsTextShown kind text =
      (kind ≢ OutOfMemory) × (IsHelp kind → IsHelpPrinted text) × (kind ≢ DisplayHelp → kind ≢ DisplayVersion → IsMistakeTold text)

  -- An answer of `clap` is shown, by a text that may be shown of it; or memory was refused.
  abbrev pub IsAnswerShown : (may_show : Error → List ℕ → Type 0) → Error → Type 0
  IsAnswerShown may_show fault = IsMemoryTold ⊎ ((text : List ℕ) × may_show fault text × IsTextShown (kind_of fault) text)
