-- The bytes of an equation, and the order of equations.
use Rattle.std.specs.Prelude.{◌≡◌, ℕ, ◌+◌, ◌*◌, List, ◌∷◌, ◌++◌}
use Rattle.std.specs.Ordering.{nat_cmp}
use Rattle.std.specs.declared.cmp.Ordering.TheVariants.{Less}
use Rattle.std.specs.Cmp.Lexicographic.{slice_cmp}
use Rattle.std.specs.Int.{w16, to_be_bytes}
use Rattle.ints.specs.Codes.{code_of}
use Rattle.rtl_acts.specs.declared.arguments.Arguments.{Arguments}
use Rattle.rtl_acts.specs.declared.arguments.Arguments.TheVariants.{One, Two}
use Rattle.rtl_acts.specs.Spelling.{register_text, arguments_text}
use Rattle.cse_check_rules.specs.declared.equation.RightSide.{RightSide}
use Rattle.cse_check_rules.specs.declared.equation.RightSide.TheVariants.{Operation, Cell, Copy}
use Rattle.cse_check_rules.specs.declared.equation.Equation.{Equation}

-- a right side: its code, and what follows that
abbrev pub right_code : RightSide → ℕ
right_code (Operation op arguments) = 0
right_code (Cell global index) = 1
right_code (Copy source) = 2

abbrev pub right_body : RightSide → List ℕ
right_body (Operation op arguments) = code_of op ∷ arguments_text arguments
right_body (Cell global index) = to_be_bytes w16 global ++ register_text index
right_body (Copy source) = register_text source

abbrev pub equation_text : Equation → List ℕ
equation_text equation = register_text equation.register ++ (right_code equation.right ∷ right_body equation.right)

-- the bytes of one come before those of the other: at the first that differ they are lower
abbrev pub IsBefore : Equation → Equation → Type 0
IsBefore first second = slice_cmp nat_cmp (equation_text first) (equation_text second) ≡ Less

-- the four bytes behind an operator's code, the six behind a register, and all eight, as numbers: a text that is shorter has zeros behind it
abbrev pub arguments_rank : Arguments → ℕ
arguments_rank (One a) = a * 65536
arguments_rank (Two a b) = a * 65536 + b

abbrev pub right_rank : RightSide → ℕ
right_rank (Operation op arguments) = code_of op * 4294967296 + arguments_rank arguments
right_rank (Cell global index) = 1099511627776 + global * 16777216 + index * 256
right_rank (Copy source) = 2199023255552 + source * 16777216

abbrev pub rank : Equation → ℕ
rank equation = equation.register * 281474976710656 + right_rank equation.right
