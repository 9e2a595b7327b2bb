-- Each register in a slot of its own: what is done for an instruction, with words moved to r0 and r1
-- before it and from r0 behind it.
use Rattle.std.specs.Prelude.{ℕ, List, [], ◌∷◌, Option, Some, None, map}
use Rattle.std.specs.Option.{option_map}
use Rattle.locations.specs.declared.location.Location.{Location}
use Rattle.locations.specs.declared.location.Location.TheVariants.{InRegister, InSlot}
use Rattle.locations.specs.declared.location.Move as location_move
use Rattle.rtl_acts.specs.declared.arguments.Arguments.{Arguments}
use Rattle.rtl_acts.specs.declared.arguments.Arguments.TheVariants.{One, Two}
use Rattle.rtl_acts.specs.declared.act.Act.{Act}
use Rattle.rtl_acts.specs.declared.act.Act.TheVariants.{Nop, Constant, Move, Operate, Load, Store, Put}
use Rattle.rtl_language.specs.declared.instruction.Instruction.{Instruction}
use Rattle.rtl_language.specs.declared.instruction.Instruction.TheVariants.{Do, Call, Branch, Return}
use Rattle.rtl_language.specs.Function as rtl
use Rattle.machine.specs.declared.arguments.Arguments as machine_arguments
use Rattle.machine.specs.declared.arguments.Arguments.TheVariants as arguments
use Rattle.machine.specs.declared.act.Act as machine_act
use Rattle.machine.specs.declared.act.Act.TheVariants as act
use Rattle.ltl.specs.declared.block.Block.{Block}
use Rattle.ltl.specs.declared.block.Body.{Body}
use Rattle.ltl.specs.declared.block.Body.TheVariants as body
use Rattle.ltl.specs.Function as ltl
use Rattle.alloc_check_rules.specs.declared.equation.Equation.{Equation}

-- a register's slot
abbrev pub slot : ℕ → Location
slot register = InSlot register

-- a word from a slot, and r0's to a slot
abbrev pub fetch : ℕ → ℕ → location_move.Move
fetch machine_register register = record { target = InRegister machine_register; source = slot register }

abbrev pub keep : ℕ → location_move.Move
keep register = record { target = slot register; source = InRegister 0 }

-- ---- acts

abbrev pub arguments_before : Arguments → List location_move.Move
arguments_before (One a) = fetch 0 a ∷ []
arguments_before (Two a b) = fetch 0 a ∷ (fetch 1 b ∷ [])

abbrev pub arguments_in : Arguments → machine_arguments.Arguments
arguments_in (One a) = arguments.One 0
arguments_in (Two a b) = arguments.Two 0 1

abbrev pub act_before : Act → List location_move.Move
act_before Nop = []
act_before (Constant target word) = []
act_before (Move target source) = fetch 0 source ∷ []
act_before (Operate op target names) = arguments_before names
act_before (Load target global index) = fetch 0 index ∷ []
act_before (Store global index source) = fetch 0 index ∷ (fetch 1 source ∷ [])
act_before (Put source target) = fetch 0 source ∷ []

abbrev pub act_in : Act → Option machine_act.Act
act_in Nop = None
act_in (Constant target word) = Some (act.Constant 0 word)
act_in (Move target source) = None
act_in (Operate op target names) = Some (act.Operate op 0 (arguments_in names))
act_in (Load target global index) = Some (act.Load 0 global 0)
act_in (Store global index source) = Some (act.Store global 0 1)
act_in (Put source None) = Some (act.Put 0 None)
act_in (Put source (Some target)) = Some (act.Put 0 (Some 0))

abbrev pub act_after : Act → List location_move.Move
act_after Nop = []
act_after (Constant target word) = keep target ∷ []
act_after (Move target source) = keep target ∷ []
act_after (Operate op target names) = keep target ∷ []
act_after (Load target global index) = keep target ∷ []
act_after (Store global index source) = []
act_after (Put source None) = []
act_after (Put source (Some target)) = keep target ∷ []

-- ---- blocks

abbrev pub before_in : Instruction → List location_move.Move
before_in (Do a successor) = act_before a
before_in (Call function names target successor) = []
before_in (Branch test taken other) = arguments_before test.arguments
before_in (Return None) = []
before_in (Return (Some value)) = fetch 0 value ∷ []

abbrev pub body_in : Instruction → Body
body_in (Do a successor) = body.Go (act_in a) (act_after a) successor
body_in (Call function names target successor) = body.Call function (map slot names) (option_map slot target) [] successor
body_in (Branch test taken other) = body.Branch (record { condition = test.condition; arguments = arguments_in test.arguments }) taken other
body_in (Return None) = body.Return None
body_in (Return (Some value)) = body.Return (Some 0)

abbrev pub block_in : Instruction → Block
block_in i = record { before = before_in i; body = body_in i }

-- as many slots as registers, the parameters in theirs, and a block for each instruction
abbrev pub function_in : rtl.FunctionData → ltl.FunctionData
function_in f = record { parameters = map slot f.parameters; slots = f.registers; entry = f.entry; blocks = map block_in f.nodes }

-- a register lies in its slot
abbrev pub own : ℕ → Equation
own register = record { register = register; location = slot register }
