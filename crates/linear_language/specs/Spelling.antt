-- The bytes of a function of Linear.
use Rattle.std.specs.Prelude.{ℕ, List, ◌∷◌, ◌++◌}
use Rattle.std.specs.Int.{w16, w32, to_be_bytes}
use Rattle.lang_base.specs.Texts.{counted_text}
use Rattle.machine.specs.Spelling.{act_code, act_body, call_text, move_text, test_text, value_text, frame_text}
use Rattle.linear_language.specs.declared.instruction.Instruction.{Instruction}
use Rattle.linear_language.specs.declared.instruction.Instruction.TheVariants.{Do, Copy, Call, Branch, Return, Label, Goto}
use Rattle.linear_language.specs.Function.{FunctionData}

-- an instruction: its code, and what follows that
abbrev pub instruction_code : Instruction → ℕ
instruction_code (Do act) = act_code act
instruction_code (Copy step) = 2
instruction_code (Call function arguments target) = 6
instruction_code (Branch test label) = 8
instruction_code (Return value) = 9
instruction_code (Label label) = 10
instruction_code (Goto label) = 11

abbrev pub instruction_body : Instruction → List ℕ
instruction_body (Do act) = act_body act
instruction_body (Copy step) = move_text step
instruction_body (Call function arguments target) = call_text (function, (arguments, target))
instruction_body (Branch test label) = test_text test ++ to_be_bytes w16 label
instruction_body (Return value) = value_text value
instruction_body (Label label) = to_be_bytes w16 label
instruction_body (Goto label) = to_be_bytes w16 label

abbrev pub instruction_text : Instruction → List ℕ
instruction_text i = instruction_code i ∷ instruction_body i

-- the first byte of a function of Linear
abbrev pub tag : ℕ
tag = 4

-- the tag, the parameters and slots, the number of instructions, and the instructions
abbrev pub spelling : FunctionData → List ℕ
spelling f = tag ∷ frame_text (f.parameters, f.slots) ++ counted_text (to_be_bytes w32) instruction_text f.code
