-- Which equation an instruction makes, and which it kills (Leroy 2009, section on common subexpression elimination).
use Rattle.std.specs.Prelude.{ℕ, List, [], ◌∷◌, Bool, true, false, ◌||◌, Option, Some, None, nat_eq, if◌then◌else◌}
use Rattle.std.specs.Option.{option_map}
use Rattle.rtl_acts.specs.declared.arguments.Arguments.{Arguments}
use Rattle.rtl_acts.specs.declared.arguments.Arguments.TheVariants.{One, Two}
use Rattle.rtl_acts.specs.declared.act.Act.{Act}
use Rattle.rtl_acts.specs.declared.act.Act.TheVariants.{Move, Operate, Load, Store}
use Rattle.rtl_passes_filled.specs.Instruction.{Instruction}
use Rattle.rtl_passes_filled.specs.Instruction.TheVariants.{Do, Call, Branch, Return}
use Rattle.constprop_check_rules.specs.Known.{written_by}
use Rattle.cse_check_rules.specs.declared.equation.RightSide.{RightSide}
use Rattle.cse_check_rules.specs.declared.equation.RightSide.TheVariants.{Operation, Cell, Copy}
use Rattle.cse_check_rules.specs.declared.equation.Equation.{Equation}

-- whether a register is one of the arguments
abbrev pub takes : Arguments → ℕ → Bool
takes (One a) r = nat_eq a r
takes (Two a b) r = nat_eq a r || nat_eq b r

-- whether a right side names a register
abbrev pub reads : RightSide → ℕ → Bool
reads (Operation op arguments) r = takes arguments r
reads (Cell global index) r = nat_eq index r
reads (Copy source) r = nat_eq source r

-- whether an equation names a register, on either side
abbrev pub names : Equation → ℕ → Bool
names equation r = nat_eq equation.register r || reads equation.right r

-- the equation of what was put into a register, unless that is among what was read
abbrev pub equation_of : ℕ → RightSide → Option Equation
equation_of target right = if reads right target then None else Some (record { register = target; right = right })

-- the equation that an act makes
abbrev pub made_by : Act → Option Equation
made_by (Move target source) = equation_of target (Copy source)
made_by (Operate op target arguments) = equation_of target (Operation op arguments)
made_by (Load target global index) = equation_of target (Cell global index)
made_by _ = None

abbrev pub equation_by : Instruction → Option Equation
equation_by (Do act successor) = made_by act
equation_by _ = None

-- whether a right side is a cell, and whether it is one of this global
abbrev pub loads : RightSide → Bool
loads (Cell global index) = true
loads _ = false

abbrev pub loads_from : RightSide → ℕ → Bool
loads_from (Cell global index) other = nat_eq global other
loads_from _ other = false

-- whether a cell may hold another word behind an instruction: behind a store to its global, and behind every call
abbrev pub act_disturbs : Act → RightSide → Bool
act_disturbs (Store global index source) right = loads_from right global
act_disturbs _ right = false

abbrev pub disturbs : Instruction → RightSide → Bool
disturbs (Do act successor) right = act_disturbs act right
disturbs (Call function arguments target successor) right = loads right
disturbs _ right = false

-- whether an equation names the register that is written, if one is
abbrev pub overwrites : Option ℕ → Equation → Bool
overwrites None equation = false
overwrites (Some target) equation = names equation target

-- whether an equation need not hold behind an instruction where it held before
abbrev pub kills : Instruction → Equation → Bool
kills i equation = overwrites (written_by i) equation || disturbs i equation.right

-- the move from a register that an act can be made, and the equation which allows that
abbrev pub shared_by : Act → ℕ → Option (Equation × Act)
shared_by (Move target source) r = Some (record { register = source; right = Copy r }, Move target r)
shared_by (Operate op target arguments) r = Some (record { register = r; right = Operation op arguments }, Move target r)
shared_by (Load target global index) r = Some (record { register = r; right = Cell global index }, Move target r)
shared_by _ r = None

abbrev pub shared : Instruction → ℕ → Option (Equation × Instruction)
shared (Do act successor) r = option_map (λ made. (made.0, Do made.1 successor)) (shared_by act r)
shared _ r = None

-- where an instruction can go on
abbrev pub successors_of : Instruction → List ℕ
successors_of (Do act successor) = successor ∷ []
successors_of (Call function arguments target successor) = successor ∷ []
successors_of (Branch test taken other) = taken ∷ other ∷ []
successors_of (Return value) = []
