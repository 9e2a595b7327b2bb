-- When a body does with locations what an instruction does with registers (Rideau and Leroy 2010: structural conformity).
use Rattle.std.specs.Prelude.{ℕ, ◌==◌, List, [], ◌∷◌, length, Option, Some, None, Bool, true, false, ◌&&◌, if◌then◌else◌}
use Rattle.std.specs.Option.{option_map}
use Rattle.ints.specs.Codes.{code_of}
use Rattle.ints.specs.Conditions.{cond_code_of}
use Rattle.locations.specs.declared.location.Location.{Location}
use Rattle.locations.specs.declared.location.Location.TheVariants.{InRegister}
use Rattle.rtl_passes.specs.Arguments.{Arguments}
use Rattle.rtl_passes.specs.Arguments.TheVariants.{One, Two}
use Rattle.rtl_passes.specs.Act.{Act}
use Rattle.rtl_passes.specs.Act.TheVariants.{Nop, Constant, Move, Operate, Load, Store, Put}
use Rattle.rtl_passes.specs.Test.{Test}
use Rattle.rtl_passes.specs.Instruction.{Instruction}
use Rattle.rtl_passes.specs.Instruction.TheVariants.{Do, Call, Branch, Return}
use Rattle.ltl.specs.Arguments as machine_arguments
use Rattle.ltl.specs.Arguments.TheVariants as arguments
use Rattle.ltl.specs.Act as machine_act
use Rattle.ltl.specs.Act.TheVariants as act
use Rattle.ltl.specs.Test as machine_test
use Rattle.ltl.specs.declared.block.Body.{Body}
use Rattle.ltl.specs.declared.block.Body.TheVariants as body
use Rattle.alloc_check_rules.specs.declared.equation.Equation.{Equation}
use Rattle.alloc_check_rules.specs.declared.change.Change.{Change}
use Rattle.alloc_check_rules.specs.declared.change.Change.TheVariants.{Nothing, Defines, Drops, Copies}

-- ---- what a pair defines, if it is one

-- as many arguments
abbrev pub same_number : Arguments → machine_arguments.Arguments → Bool
same_number (One a) (arguments.One k) = true
same_number (One a) (arguments.Two k m) = false
same_number (Two a b) (arguments.One k) = false
same_number (Two a b) (arguments.Two k m) = true

-- a result goes somewhere in both, or in neither
abbrev pub result_change : Option ℕ → Option Location → Option Change
result_change None None = Some Nothing
result_change None (Some l) = None
result_change (Some r) None = None
result_change (Some r) (Some l) = Some (Defines r l)

-- an act and the act that stands for it, which may be none for a move, and for a definition of which no use is left
abbrev pub act_change : Act → Option machine_act.Act → Option Change
act_change Nop None = Some Nothing
act_change (Move target source) None = Some (Copies target source)
act_change (Constant target word) None = Some (Drops target)
act_change (Operate op target names) None = Some (Drops target)
act_change (Load target global index) None = Some (Drops target)
act_change (Constant target word) (Some (act.Constant k other)) = if word == other then Some (Defines target (InRegister k)) else None
act_change (Operate op target names) (Some (act.Operate other k locations)) =
    if code_of op == code_of other && same_number names locations then Some (Defines target (InRegister k)) else None
act_change (Load target global index) (Some (act.Load k other j)) = if global == other then Some (Defines target (InRegister k)) else None
act_change (Store global index source) (Some (act.Store other j k)) = if global == other then Some Nothing else None
act_change (Put source target) (Some (act.Put k location)) = result_change target (option_map (λ r. InRegister r) location)
act_change _ _ = None

abbrev pub same_test : Test → machine_test.Test → Bool
same_test test other = cond_code_of test.condition == cond_code_of other.condition && same_number test.arguments other.arguments

-- a value is returned by both, or by neither
abbrev pub same_presence : Option ℕ → Option ℕ → Bool
same_presence None None = true
same_presence None (Some k) = false
same_presence (Some r) None = false
same_presence (Some r) (Some k) = true

-- an instruction and the body that stands for it: what they define; none where the body does something else
abbrev pub change_of : Instruction → Body → Option Change
change_of (Do a s) (body.Go b after t) = if s == t then act_change a b else None
change_of (Call f names target s) (body.Call g locations location after t) =
    if f == g && length names == length locations && s == t then result_change target location else None
change_of (Branch test s o) (body.Branch other t p) = if same_test test other && s == t && o == p then Some Nothing else None
change_of (Return value) (body.Return location) = if same_presence value location then Some Nothing else None
change_of _ _ = None

-- ---- the equations that a pair uses

-- registers and locations, one with one
abbrev pub equations_of : List ℕ → List Location → List Equation
equations_of [] ls = []
equations_of (r ∷ rs) [] = []
equations_of (r ∷ rs) (l ∷ ls) = record { register = r; location = l } ∷ equations_of rs ls

abbrev pub in_register : ℕ → ℕ → Equation
in_register r k = record { register = r; location = InRegister k }

abbrev pub arguments_used : Arguments → machine_arguments.Arguments → List Equation
arguments_used (One a) (arguments.One k) = in_register a k ∷ []
arguments_used (Two a b) (arguments.Two k m) = in_register a k ∷ in_register b m ∷ []
arguments_used _ _ = []

abbrev pub act_uses : Act → Option machine_act.Act → List Equation
act_uses (Operate op target names) (Some (act.Operate other k locations)) = arguments_used names locations
act_uses (Load target global index) (Some (act.Load k other j)) = in_register index j ∷ []
act_uses (Store global index source) (Some (act.Store other j k)) = in_register index j ∷ in_register source k ∷ []
act_uses (Put source target) (Some (act.Put k location)) = in_register source k ∷ []
act_uses _ _ = []

-- where each argument's word is looked for
abbrev pub uses : Instruction → Body → List Equation
uses (Do a s) (body.Go b after t) = act_uses a b
uses (Call f names target s) (body.Call g locations location after t) = equations_of names locations
uses (Branch test s o) (body.Branch other t p) = arguments_used test.arguments other.arguments
uses (Return (Some r)) (body.Return (Some k)) = in_register r k ∷ []
uses _ _ = []

-- where an instruction can go on
abbrev pub successors_of : Instruction → List ℕ
successors_of (Do a s) = s ∷ []
successors_of (Call f names target s) = s ∷ []
successors_of (Branch test s o) = s ∷ o ∷ []
successors_of (Return value) = []
