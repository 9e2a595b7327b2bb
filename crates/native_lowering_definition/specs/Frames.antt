-- The frame of a function: from the top of the stack, the cells of arguments past the fourth of its calls, its slots, and the registers of
-- its caller that it saves. Below them stands where it goes back to, and then the caller's frame.
use Rattle.std.specs.Prelude.{ℕ, ◌+◌, ◌-◌, ◌==◌, Bool, false, ◌||◌, List, [], ◌∷◌, length, filter, Option, Some, None, max}
use Rattle.std.specs.List.{list_any}
use Rattle.std.specs.Option.{option_map}
use Rattle.locations.specs.declared.location.Location.{Location}
use Rattle.locations.specs.declared.location.Location.TheVariants.{InRegister, InSlot}
use Rattle.machine.specs.declared.act.Act.{Act}
use Rattle.machine.specs.declared.act.Act.TheVariants.{Constant, Operate, Load, Store, Put}
use Rattle.linear_language.specs.declared.instruction.Instruction.{Instruction}
use Rattle.linear_language.specs.declared.instruction.Instruction.TheVariants.{Do, Copy, Call, Branch, Return, Label, Goto}
use Rattle.linear_language.specs.Function.{FunctionData, arguments_of}

abbrev pub is_register : ℕ → Location → Bool
is_register r (InRegister s) = s == r
is_register r (InSlot s) = false

-- the location that an instruction writes
abbrev pub target_of_act : Act → Option Location
target_of_act (Constant target word) = Some (InRegister target)
target_of_act (Operate op target arguments) = Some (InRegister target)
target_of_act (Load target global index) = Some (InRegister target)
target_of_act (Store global index source) = None
target_of_act (Put source target) = option_map (λ r. InRegister r) target

abbrev pub target_of : Instruction → Option Location
target_of (Do act) = target_of_act act
target_of (Copy step) = Some step.target
target_of (Call function arguments target) = target
target_of (Branch test label) = None
target_of (Return value) = None
target_of (Label label) = None
target_of (Goto label) = None

abbrev pub is_there : ℕ → Option Location → Bool
is_there r None = false
is_there r (Some l) = is_register r l

-- the function writes the register, as a parameter or by an instruction
abbrev pub writes : FunctionData → ℕ → Bool
writes f r = list_any (is_register r) f.parameters || list_any (λ i. is_there r (target_of i)) f.code

-- the most arguments past the fourth of a call
abbrev pub outs_of : List Instruction → ℕ
outs_of [] = 0
outs_of (i ∷ is) = max (length (arguments_of i) - 4) (outs_of is)

-- the cells for arguments, the slots, and the registers that are saved
pub record Frame : Type 0 where
  pub outs : ℕ
  pub slots : ℕ
  pub saved : List ℕ

abbrev pub frame_of : FunctionData → Frame
frame_of f = record { outs = outs_of f.code; slots = f.slots; saved = filter (writes f) (4 ∷ 5 ∷ 6 ∷ 7 ∷ []) }

-- the number of its cells
abbrev pub size_of : Frame → ℕ
size_of frame = frame.outs + frame.slots + length frame.saved

-- the cell of a slot
abbrev pub slot_cell : Frame → ℕ → ℕ
slot_cell frame s = frame.outs + s

-- the first cell of the registers that are saved
abbrev pub saved_cell : Frame → ℕ
saved_cell frame = frame.outs + frame.slots

-- the cell of the caller's that has an argument past the fourth, behind the cell where the function goes back to
abbrev pub argument_cell : Frame → ℕ → ℕ
argument_cell frame j = size_of frame + 1 + j
