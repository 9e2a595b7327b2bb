-- A header of C for what a library exports (ISO C11, 6.7.6.3 and 6.10.1): each function is declared under its prefix, as the doorways of native
-- code have it. A word is `unsigned`: a call of native code passes `int` and `unsigned` alike.
use Rattle.std.specs.Prelude.{ℕ, Bool, false, List, [], ◌∷◌, ◌++◌, codes, is_some, if◌then◌else◌}
use Rattle.std.specs.List.{flat_map, list_any}
use Rattle.lang_base.specs.declared.program.Named.{Named}
use Rattle.lang_base.specs.declared.program.Program.{Program}
use Rattle.linear_language.specs.Function.{FunctionData}
use Rattle.linear_language.specs.declared.instruction.Instruction.{Instruction}
use Rattle.linear_language.specs.declared.instruction.Instruction.TheVariants.{Do, Copy, Call, Branch, Return, Label, Goto}
use Rattle.locations.specs.declared.location.Location.{Location}
use Rattle.text_keys.specs.Lines.{line_end}

-- an instruction that ends its function with a value
abbrev pub gives : Instruction → Bool
gives (Do act) = false
gives (Copy step) = false
gives (Call function arguments target) = false
gives (Branch test label) = false
gives (Return value) = is_some value
gives (Label label) = false
gives (Goto label) = false

-- a function whose code has none gives nothing
abbrev pub result_text : List Instruction → List ℕ
result_text code = if list_any gives code then codes "unsigned " else codes "void "

-- a parameter behind another
abbrev pub next_parameter : Location → List ℕ
next_parameter parameter = codes ", unsigned"

abbrev pub parameters_text : List Location → List ℕ
parameters_text [] = codes "void"
parameters_text (parameter ∷ others) = codes "unsigned" ++ flat_map next_parameter others

-- a function is declared
abbrev pub prototype_text : List ℕ → Named FunctionData → List ℕ
prototype_text prefix f = result_text f.function.code
    ++ (prefix ++ (f.name ++ (codes "(" ++ (parameters_text f.function.parameters ++ (codes ");" ++ line_end)))))

-- what tells that the header was read is the name of no function, since no name begins with a digit
abbrev pub guard_name : List ℕ → List ℕ
guard_name prefix = prefix ++ codes "0_HEADER"

abbrev pub guard_line : List ℕ → List ℕ → List ℕ
guard_line directive prefix = directive ++ (guard_name prefix ++ line_end)

abbrev pub guard_text : List ℕ → List ℕ
guard_text prefix = guard_line (codes "#ifndef ") prefix ++ guard_line (codes "#define ") prefix

-- the header of a program's functions under a prefix: what it says is said once
abbrev pub header_text : List ℕ → Program FunctionData → List ℕ
header_text prefix p = guard_text prefix ++ (flat_map (prototype_text prefix) p.functions ++ (codes "#endif" ++ line_end))
