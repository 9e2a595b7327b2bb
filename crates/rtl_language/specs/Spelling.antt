-- The bytes of a function of RTL.
use Rattle.std.specs.Prelude.{ℕ, List, ◌∷◌, ◌++◌}
use Rattle.std.specs.Int.{w16, to_be_bytes}
use Rattle.lang_base.specs.Texts.{counted_text}
use Rattle.rtl_acts.specs.Spelling.{act_code, act_body, registers_text, target_text, test_text, frame_text}
use Rattle.rtl_language.specs.declared.instruction.Instruction.{Instruction}
use Rattle.rtl_language.specs.declared.instruction.Instruction.TheVariants.{Do, Call, Branch, Return}
use Rattle.rtl_language.specs.Function.{FunctionData}

abbrev pub node_text : ℕ → List ℕ
node_text n = to_be_bytes w16 n

-- an instruction: its code, and what follows that
abbrev pub instruction_code : Instruction → ℕ
instruction_code (Do act successor) = act_code act
instruction_code (Call function arguments target successor) = 6
instruction_code (Branch test taken other) = 8
instruction_code (Return value) = 9

abbrev pub instruction_body : Instruction → List ℕ
instruction_body (Do act successor) = act_body act ++ node_text successor
instruction_body (Call function arguments target successor) = function ∷ (registers_text arguments ++ (target_text target ++ node_text successor))
instruction_body (Branch test taken other) = test_text test ++ (node_text taken ++ node_text other)
instruction_body (Return value) = target_text value

abbrev pub instruction_text : Instruction → List ℕ
instruction_text i = instruction_code i ∷ instruction_body i

-- the entry, the number of nodes, and their instructions
abbrev pub graph_text : ℕ × List Instruction → List ℕ
graph_text g = node_text g.0 ++ counted_text node_text instruction_text g.1

-- the first byte of a function of RTL
abbrev pub tag : ℕ
tag = 2

-- the tag, the parameters and registers, and the graph
abbrev pub spelling : FunctionData → List ℕ
spelling f = tag ∷ frame_text (f.parameters, f.registers) ++ graph_text (f.entry, f.nodes)
