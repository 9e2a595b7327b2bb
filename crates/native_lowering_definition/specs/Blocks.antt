-- The block of each instruction, none of which is empty.
use Rattle.std.specs.Prelude.{ℕ, ◌+◌, ◌==◌, Bool, List, [], ◌∷◌, ◌++◌, length, Option, Some, None, if◌then◌else◌, slice_get}
use Rattle.std.specs.Option.{option_map, is_some}
use Rattle.ints.specs.declared.conditions.Cond.{Cond}
use Rattle.ints.specs.declared.conditions.Cond.TheVariants.{Nz}
use Rattle.lang_base.specs.declared.program.Global.{Global}
use Rattle.lang_base.specs.declared.program.Named.{Named}
use Rattle.locations.specs.declared.location.Location.{Location}
use Rattle.machine.specs.declared.act.Act.{Act}
use Rattle.machine.specs.declared.act.Act.TheVariants.{Constant, Operate, Load, Store, Put}
use Rattle.machine.specs.declared.arguments.Arguments.{Arguments}
use Rattle.machine.specs.declared.arguments.Arguments.TheVariants.{One, Two}
use Rattle.linear_language.specs.declared.instruction.Instruction.{Instruction}
use Rattle.linear_language.specs.declared.instruction.Instruction.TheVariants as l
use Rattle.linear_language.specs.Function.{FunctionData}
use Rattle.linear_language.specs.Labels.{place_of}
use Rattle.x86_syntax.specs.declared.condition.Condition.{Condition}
use Rattle.x86_syntax.specs.declared.condition.Condition.TheVariants.{NotEqual}
use Rattle.x86_syntax.specs.declared.instruction.Instruction.{Instruction as Native}
use Rattle.x86_syntax.specs.declared.instruction.Instruction.TheVariants.{Label, Copy, Set, Take, Keep, CompareWith, Jump, JumpIf, Stop, StopIf, Call, Return, Room, Grow, Shrink, Put as PutByte}
use Rattle.x86_syntax.specs.declared.register.Register.TheVariants.{Eax, Edi}
use Rattle.native_lowering_definition.specs.Facts.{Facts, known, answered}
use Rattle.native_lowering_definition.specs.Frames.{Frame, size_of, saved_cell}
use Rattle.native_lowering_definition.specs.Kinds.{kind_of, condition_of}
use Rattle.native_lowering_definition.specs.Locations.{register_of}
use Rattle.native_lowering_definition.specs.Moving.{moves, passes, puts, receives}
use Rattle.native_lowering_definition.specs.Operating.{Block, compare, operates}
use Rattle.native_lowering_definition.specs.Reaching.{loads, stores}

-- what a block is made for: the program's functions and globals, and the code and the frame of its function
pub record Around : Type 0 where
  pub functions : List (Named FunctionData)
  pub globals : List Global
  pub code : List Instruction
  pub frame : Frame

-- the number of a global's cells, if it is there
abbrev pub cells_in : Around → ℕ → Option ℕ
cells_in around global = option_map (λ (g : Global). g.cells) (slice_get around.globals global)

abbrev pub prints : Option ℕ → Block
prints None = PutByte ∷ []
prints (Some r) = PutByte ∷ Copy (register_of r) Eax ∷ []

abbrev pub acts : Around → Facts → Act → Block
acts around facts (Constant target word) = Set (register_of target) word ∷ []
acts around facts (Operate op target arguments) = operates (kind_of op) target arguments facts
acts around facts (Load target global index) = loads target global index (cells_in around global) (known index facts)
acts around facts (Store global index source) = stores global index source (cells_in around global) (known index facts)
acts around facts (Put source target) = Copy Edi (register_of source) ∷ prints target

-- the result of a call
abbrev pub gets : Frame → Option Location → Block
gets frame None = []
gets frame (Some l) = puts frame l Eax

-- a call of a function that takes so many arguments, if it is there
abbrev pub calls_as : Frame → ℕ → List Location → Option Location → Option ℕ → Block
calls_as frame function arguments target None = Stop ∷ []
calls_as frame function arguments target (Some count) =
    if length arguments == count then passes frame arguments ++ Call function ∷ gets frame target else Stop ∷ []

abbrev pub arity_of : Around → ℕ → Option ℕ
arity_of around function = option_map (λ (f : Named FunctionData). length f.function.parameters) (slice_get around.functions function)

-- jumps to a label, or stops where it is missing; always, or where a condition holds
abbrev pub has_label : Around → ℕ → Bool
has_label around label = is_some (place_of label around.code)

abbrev pub jumps : Around → ℕ → Native
jumps around label = if has_label around label then Jump label else Stop

abbrev pub jumps_if : Around → Condition → ℕ → Native
jumps_if around condition label = if has_label around label then JumpIf condition label else StopIf condition

-- a test of so many arguments, whose answer is not known; one with another number stops
abbrev pub tests : Around → Facts → Cond → Arguments → ℕ → Block
tests around facts Nz (One r) label = CompareWith (register_of r) 0 ∷ jumps_if around NotEqual label ∷ []
tests around facts Nz (Two a b) label = Stop ∷ []
tests around facts condition (One r) label = Stop ∷ []
tests around facts condition (Two a b) label = compare a b (known b facts) ∷ jumps_if around (condition_of condition) label ∷ []

abbrev pub branches : Around → Facts → Cond → Arguments → ℕ → Option Condition → Block
branches around facts condition arguments label None = tests around facts condition arguments label
branches around facts condition arguments label (Some answer) = jumps_if around answer label ∷ []

-- the registers that are saved, from a cell on
abbrev pub saves : ℕ → List ℕ → Block
saves cell [] = []
saves cell (r ∷ rs) = Keep cell (register_of r) ∷ saves (cell + 1) rs

abbrev pub restores : ℕ → List ℕ → Block
restores cell [] = []
restores cell (r ∷ rs) = Take (register_of r) cell ∷ restores (cell + 1) rs

abbrev pub result : Option ℕ → Block
result None = []
result (Some r) = Copy Eax (register_of r) ∷ []

abbrev pub leaves : Frame → Option ℕ → Block
leaves frame value = result value ++ (restores (saved_cell frame) frame.saved ++ Shrink (size_of frame) ∷ Return ∷ [])

-- the block of an instruction before which this is known
abbrev pub block : Around → Facts → Instruction → Block
block around facts (l.Do act) = acts around facts act
block around facts (l.Copy step) = moves around.frame step.target step.source
block around facts (l.Call function arguments target) = calls_as around.frame function arguments target (arity_of around function)
block around facts (l.Branch test label) = branches around facts test.condition test.arguments label (answered test facts)
block around facts (l.Return value) = leaves around.frame value
block around facts (l.Label label) = Label label ∷ []
block around facts (l.Goto label) = jumps around label ∷ []

-- what a function begins with
abbrev pub grows : ℕ → Block
grows size = if size == 0 then [] else Grow size ∷ []

abbrev pub opening : Frame → List Location → Block
opening frame parameters = Room ∷ (grows (size_of frame) ++ (saves (saved_cell frame) frame.saved ++ receives frame parameters))
