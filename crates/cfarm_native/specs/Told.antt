-- What is written of the native code of the bytes of a linked program, or why there is none.
use Rattle.std.specs.Prelude.{◌≡◌, ℕ, List, Option}
use Rattle.std.specs.Io.KnownBytes.{Appends}
use Rattle.lang_base.specs.declared.program.Program.{Program}
use Rattle.lang_helpers.specs.declared.error.RunError.TheVariants.{NoMemory, Write}
use Rattle.linear_language.specs.Function.{FunctionData}
use Rattle.native_lowering_definition.specs.Lowering.{lowered}
use Rattle.native_text.specs.Doorways.{prefix_in}
use Rattle.native_text.specs.Whole.{native_text}
use Rattle.native_text_header.specs.Header.{header_text}
use Rattle.cfarm_native.specs.declared.writing.Form.{Form as Sort}
use Rattle.cfarm_native.specs.declared.writing.Form.TheVariants.{Code, Header}
use Rattle.cfarm_output.specs.Begun.{IsBegun}
use Rattle.cfarm_run.specs.ExecTold.{IsBehindTold, IsFormTold, IsSpelled}
use Rattle.cfarm_run.specs.declared.exec_error.ExecError.{ExecError}
use Rattle.cfarm_run.specs.declared.exec_error.ExecError.TheVariants.{Form, Run}

-- a text of each program
abbrev pub Texts : Type 0
Texts = Program FunctionData → List ℕ

-- that of its native code, with main, or with a doorway of each function under a prefix
abbrev pub code_text : Option (List ℕ) → Texts
code_text prefix p = native_text (lowered p) prefix

abbrev pub text_in : Sort → Texts
text_in (Code doorways) = code_text (prefix_in doorways)
text_in (Header prefix) = header_text prefix.now

-- the text of the program that the bytes spell
abbrev pub IsTextOfBytes : List ℕ → Texts → List ℕ → Type 0
IsTextOfBytes bytes text made = (p : Program FunctionData) × IsSpelled bytes p × (made ≡ text p)

-- the bytes spell no program, or there was no memory
abbrev pub IsUnmade : List ℕ → ExecError → Type 0
IsUnmade bytes (Form fault) = IsFormTold bytes fault × IsBehindTold bytes fault
IsUnmade bytes (Run NoMemory) = Unit {0}
IsUnmade bytes (Run Write) = ⊥

-- the bytes spell a program, and its text was written
abbrev pub HasWritten : List ℕ → Texts → Option (List ℕ) → Option (List ℕ) → Type 0
HasWritten bytes text before after = (p : Program FunctionData) × IsSpelled bytes p × Appends before after (text p)

-- where the bytes are refused, or there was no memory, nothing is printed; a writer that fails holds a beginning of the text
abbrev pub Printed : List ℕ → Texts → ExecError → Option (List ℕ) → Option (List ℕ) → Type 0
Printed bytes text (Form fault) before after = after ≡ before
Printed bytes text (Run NoMemory) before after = after ≡ before
Printed bytes text (Run Write) before after =
    (p : Program FunctionData) × IsSpelled bytes p × IsBegun (text p) before after
