-- The lowering of functions and programs.
use Rattle.std.specs.Prelude.{ℕ, Bool, false, ◌==◌, List, [], ◌∷◌, ◌++◌, length, map, if◌then◌else◌}
use Rattle.std.specs.List.{list_any}
use Rattle.lang_base.specs.declared.program.Named.{Named}
use Rattle.lang_base.specs.declared.program.Program.{Program}
use Rattle.linear_language.specs.declared.instruction.Instruction.{Instruction}
use Rattle.linear_language.specs.declared.instruction.Instruction.TheVariants.{Do, Copy, Call, Branch, Return, Label, Goto}
use Rattle.linear_language.specs.Function.{FunctionData}
use Rattle.x86_syntax.specs.declared.function.Function.{Function}
use Rattle.x86_syntax.specs.declared.instruction.Instruction.{Instruction as Native}
use Rattle.x86_syntax.specs.declared.instruction.Instruction.TheVariants.{Stop}
use Rattle.native_lowering_definition.specs.Blocks.{Around, block, opening}
use Rattle.native_lowering_definition.specs.Facts.{Facts, no_facts, after}
use Rattle.native_lowering_definition.specs.Frames.{frame_of}
use Rattle.native_lowering_definition.specs.Operating.{Block}

-- a jump or a branch names the label
abbrev pub names : ℕ → Instruction → Bool
names label (Do act) = false
names label (Copy step) = false
names label (Call function arguments target) = false
names label (Branch test other) = other == label
names label (Return value) = false
names label (Label other) = false
names label (Goto other) = other == label

-- what is known at an instruction: nothing at a label that is named, since other ways lead there
abbrev pub known_at : List Instruction → Facts → Instruction → Facts
known_at code facts (Do act) = facts
known_at code facts (Copy step) = facts
known_at code facts (Call function arguments target) = facts
known_at code facts (Branch test label) = facts
known_at code facts (Return value) = facts
known_at code facts (Label label) = if list_any (names label) code then no_facts else facts
known_at code facts (Goto label) = facts

-- the blocks of instructions before which this is known
abbrev pub blocks : Around → Facts → List Instruction → List Block
blocks around facts [] = []
blocks around facts (i ∷ is) =
    block around (known_at around.code facts i) i ∷ blocks around (after i (known_at around.code facts i)) is

abbrev pub around_of : Program FunctionData → FunctionData → Around
around_of p f = record { functions = p.functions; globals = p.globals; code = f.code; frame = frame_of f }

-- the blocks one behind the other
abbrev pub joined : List Block → Block
joined [] = []
joined (b ∷ bs) = b ++ joined bs

-- the opening, the blocks, and a stop where the code ends
abbrev pub code_of : Program FunctionData → FunctionData → List Native
code_of p f =
    opening (frame_of f) f.parameters ++ (joined (blocks (around_of p f) no_facts f.code) ++ Stop ∷ [])

abbrev pub function_of : Program FunctionData → FunctionData → Function
function_of p f = record { parameters = length f.parameters; code = code_of p f }

abbrev pub lowered : Program FunctionData → Program Function
lowered p = record {
  globals = p.globals;
  functions = map (λ (f : Named FunctionData). record { name = f.name; function = function_of p f.function }) p.functions;
}
