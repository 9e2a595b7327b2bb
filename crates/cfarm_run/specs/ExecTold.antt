-- The program that bytes spell, and what is told of bytes that spell none.
use Rattle.std.specs.Prelude.{◌≡◌, ◌≢◌, ℕ, List, ◌∷◌, ◌++◌, Option, Ok, Err}
use Rattle.lang_base.specs.declared.shown.Shown.{Shown}
use Rattle.lang_base.specs.declared.program.Program.{Program}
use Rattle.lang_base.specs.declared.errors.FormError.{FormError}
use Rattle.lang_base.specs.declared.errors.FormError.TheVariants.{NoMemory, NotCanonical}
use Rattle.linear_language.specs.Function.{FunctionData, IsFunction}
use Rattle.linear_language.specs.Meaning.{run}
use Rattle.linear_language.specs.Spelling.{spelling}
use Rattle.lang.specs.Form.{IsProgram, program_text}
use Rattle.lang_helpers.specs.Written.{Wrote}
use Rattle.cfarm_run.specs.declared.exec_error.ExecError.{ExecError}
use Rattle.cfarm_run.specs.declared.exec_error.ExecError.TheVariants.{Form, Run}

-- all of the bytes are the written form of a program of Linear
pub record IsSpelled (bytes : List ℕ) (p : Program FunctionData) : Type 0 where
  pub fits : IsProgram IsFunction p
  pub text : bytes ≡ program_text 4 spelling p

-- the bytes spell a program, and what it does within the bound was written and is told
abbrev pub HasRun : List ℕ → ℕ → Shown → Option (List ℕ) → Option (List ℕ) → Type 0
HasRun bytes limit shown before after = (p : Program FunctionData) × IsSpelled bytes p × Wrote (run p limit) (Ok shown) before after

-- unless memory was refused, the bytes spell no program
abbrev pub IsFormTold : List ℕ → FormError → Type 0
IsFormTold bytes fault = fault ≢ NoMemory → (p : Program FunctionData) → IsSpelled bytes p → ⊥

-- where bytes stand behind those of a program, that is the fault
abbrev pub IsBehindTold : List ℕ → FormError → Type 0
IsBehindTold bytes fault = fault ≢ NoMemory → (p : Program FunctionData) (first : ℕ) (rest : List ℕ) →
    IsProgram IsFunction p → bytes ≡ program_text 4 spelling p ++ first ∷ rest → fault ≡ NotCanonical

abbrev pub IsExecFault : List ℕ → ExecError → Type 0
IsExecFault bytes (Form fault) = IsFormTold bytes fault × IsBehindTold bytes fault
IsExecFault bytes (Run fault) = Unit {0}

-- bytes that are refused print nothing; a run that is broken off is one of a program that they spell, and wrote a beginning of the output
abbrev pub Ran : List ℕ → ℕ → ExecError → Option (List ℕ) → Option (List ℕ) → Type 0
Ran bytes limit (Form fault) before after = after ≡ before
Ran bytes limit (Run fault) before after = (p : Program FunctionData) × IsSpelled bytes p × Wrote (run p limit) (Err fault) before after
