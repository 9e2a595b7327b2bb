-- The program that bytes spell.
use Rattle.std.specs.Prelude.{◌≡◌, ℕ, List}
use Rattle.lang_base.specs.declared.program.Program.{Program}
use Rattle.linear_language.specs.Function.{FunctionData, IsFunction}
use Rattle.linear_language.specs.Spelling.{spelling}
use Rattle.lang.specs.Form.{IsProgram, program_text}

-- all of the bytes are the written form of a program of Linear
pub record IsSpelled (bytes : List ℕ) (p : Program FunctionData) : Type 0 where
  pub fits : IsProgram IsFunction p
  pub text : bytes ≡ program_text 4 spelling p

abbrev pub IsNoProgram : List ℕ → Type 0
IsNoProgram bytes = (p : Program FunctionData) → IsSpelled bytes p → ⊥
