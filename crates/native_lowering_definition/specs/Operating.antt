-- The blocks of operators: D becomes what the operator makes of A and B, or the run stops.
use Rattle.std.specs.Prelude.{ℕ, ◌==◌, ◌-◌, ◌^◌, Bool, true, false, not, ◌||◌, ◌&&◌, List, [], ◌∷◌, ◌++◌, Option, Some, None, if◌then◌else◌, nat_lt}
use Rattle.machine.specs.declared.arguments.Arguments.{Arguments}
use Rattle.machine.specs.declared.arguments.Arguments.TheVariants.{One, Two}
use Rattle.x86_syntax.specs.declared.condition.Condition.TheVariants.{Equal, AboveOrEqual}
use Rattle.x86_syntax.specs.declared.operators.Operator.{Operator}
use Rattle.x86_syntax.specs.declared.operators.Operator.TheVariants as o
use Rattle.x86_syntax.specs.declared.operators.Turning.{Turning}
use Rattle.x86_syntax.specs.declared.operators.Turning.TheVariants as t
use Rattle.x86_syntax.specs.declared.operators.Shifting.{Shifting}
use Rattle.x86_syntax.specs.declared.operators.Shifting.TheVariants.{Shl, Shr, Sar}
use Rattle.x86_syntax.specs.declared.instruction.Instruction.{Instruction}
use Rattle.x86_syntax.specs.declared.instruction.Instruction.TheVariants.{Copy, Set, Do, DoWith, Turn, Shift, ShiftBy, Extend, Divide, DivideU, Compare, CompareWith, Flag, Stop, StopIf}
use Rattle.x86_syntax.specs.declared.register.Register.{Register}
use Rattle.x86_syntax.specs.declared.register.Register.TheVariants.{Eax, Ecx, Edx}
use Rattle.native_lowering_definition.specs.Facts.{Facts, known}
use Rattle.native_lowering_definition.specs.Kinds.{Kind, Turns, Makes, Shifts, Divides, Compares, AsksZero}
use Rattle.native_lowering_definition.specs.Locations.{register_of}
use Rattle.native_lowering_definition.specs.Powers.{exponent, power_known}

abbrev pub Block : Type 0
Block = List Instruction

-- D becomes A, unless they are one
abbrev pub copy : ℕ → ℕ → Block
copy d a = if a == d then [] else Copy (register_of d) (register_of a) ∷ []

abbrev pub turns : Turning → ℕ → ℕ → Block
turns op d a = copy d a ++ Turn op (register_of d) ∷ []

-- B is D, and A is not
abbrev pub makes_in_second : Operator → ℕ → ℕ → Block
makes_in_second o.Sub d a = Copy Eax (register_of a) ∷ Do o.Sub Eax (register_of d) ∷ Copy (register_of d) Eax ∷ []
makes_in_second op d a = Do op (register_of d) (register_of a) ∷ []

-- D is multiplied by a word, which may be 2 ^ k
abbrev pub multiplies_with : Option ℕ → ℕ → ℕ → Instruction
multiplies_with None d w = DoWith o.Mul (register_of d) w
multiplies_with (Some k) d w = Shift Shl (register_of d) k

abbrev pub makes_with : Operator → ℕ → ℕ → Instruction
makes_with o.Mul d w = multiplies_with (exponent w) d w
makes_with op d w = DoWith op (register_of d) w

abbrev pub makes : Operator → ℕ → ℕ → ℕ → Option ℕ → Block
makes op d a b (Some w) = copy d a ++ makes_with op d w ∷ []
makes op d a b None =
    if b == d && not (a == b) then makes_in_second op d a else copy d a ++ Do op (register_of d) (register_of b) ∷ []

-- where the count is not known to be below 32 it is tested
abbrev pub shifts_tested : Shifting → ℕ → ℕ → ℕ → Block
shifts_tested op d a b =
    CompareWith (register_of b) 32 ∷ StopIf AboveOrEqual ∷ Copy Ecx (register_of b)
    ∷ Copy Eax (register_of a) ∷ ShiftBy op Eax ∷ Copy (register_of d) Eax ∷ []

abbrev pub shifts : Shifting → ℕ → ℕ → ℕ → Option ℕ → Block
shifts op d a b None = shifts_tested op d a b
shifts op d a b (Some w) = if nat_lt w 32 then copy d a ++ Shift op (register_of d) w ∷ [] else shifts_tested op d a b

-- the divisor goes to ecx; the run stops where it is 0
abbrev pub divisor_tested : ℕ → Block
divisor_tested b = CompareWith (register_of b) 0 ∷ StopIf Equal ∷ Copy Ecx (register_of b) ∷ []

-- and where it is -1 and A the least `int`: (A xor 2 ^ 31) or not B is 0 there alone
abbrev pub divisor_tested_signed : ℕ → ℕ → Block
divisor_tested_signed a b =
    CompareWith (register_of b) 0 ∷ StopIf Equal ∷ Copy Ecx (register_of a) ∷ DoWith o.Xor Ecx (2 ^ 31)
    ∷ Copy Edx (register_of b) ∷ Turn t.Not Edx ∷ Do o.Or Ecx Edx ∷ StopIf Equal ∷ Copy Ecx (register_of b) ∷ []

abbrev pub divisor : Bool → ℕ → ℕ → Option ℕ → Block
divisor false a b None = divisor_tested b
divisor false a b (Some w) = if w == 0 then divisor_tested b else Set Ecx w ∷ []
divisor true a b None = divisor_tested_signed a b
divisor true a b (Some w) = if w == 0 || w == 2 ^ 32 - 1 then divisor_tested_signed a b else Set Ecx w ∷ []

-- the register of the quotient, or of the rest
abbrev pub divided_in : Bool → Register
divided_in true = Eax
divided_in false = Edx

abbrev pub divides_by_ecx : Bool → ℕ → Block
divides_by_ecx true a = Copy Eax (register_of a) ∷ Extend ∷ Divide Ecx ∷ []
divides_by_ecx false a = Copy Eax (register_of a) ∷ Set Edx 0 ∷ DivideU Ecx ∷ []

-- by 2 ^ k, read as unsigned: the quotient is shifted out, the rest is what is left of the bits below
abbrev pub divides_unsigned_by_power : Bool → ℕ → ℕ → ℕ → Block
divides_unsigned_by_power true d a k = copy d a ++ Shift Shr (register_of d) k ∷ []
divides_unsigned_by_power false d a k = copy d a ++ DoWith o.And (register_of d) (2 ^ k - 1) ∷ []

-- A goes to eax; where it is below 0, 2 ^ k - 1 is added, and else 0, which edx keeps: so a shift, which rounds down, rounds toward 0
-- (ISO/IEC 9899:1999, 6.5.5, paragraph 6)
abbrev pub rounds : ℕ → ℕ → Block
rounds a k = Copy Eax (register_of a) ∷ Extend ∷ DoWith o.And Edx (2 ^ k - 1) ∷ Do o.Add Eax Edx ∷ []

-- by 2 ^ k, read as signed: what was added to the rest is taken from it
abbrev pub divides_signed_by_power : Bool → ℕ → ℕ → ℕ → Block
divides_signed_by_power true d a k = rounds a k ++ Shift Sar Eax k ∷ Copy (register_of d) Eax ∷ []
divides_signed_by_power false d a k = rounds a k ++ DoWith o.And Eax (2 ^ k - 1) ∷ Do o.Sub Eax Edx ∷ Copy (register_of d) Eax ∷ []

abbrev pub divides_by_power : Bool → Bool → ℕ → ℕ → ℕ → Block
divides_by_power true quotient d a k = divides_signed_by_power quotient d a k
divides_by_power false quotient d a k = divides_unsigned_by_power quotient d a k

abbrev pub divides_by : Option ℕ → Bool → Bool → ℕ → ℕ → ℕ → Option ℕ → Block
divides_by (Some k) signed quotient d a b w = divides_by_power signed quotient d a k
divides_by None signed quotient d a b w =
    divisor signed a b w ++ (divides_by_ecx signed a ++ Copy (register_of d) (divided_in quotient) ∷ [])

abbrev pub divides : Bool → Bool → ℕ → ℕ → ℕ → Option ℕ → Block
divides signed quotient d a b w = divides_by (power_known w signed) signed quotient d a b w

abbrev pub compare : ℕ → ℕ → Option ℕ → Instruction
compare a b None = Compare (register_of a) (register_of b)
compare a b (Some w) = CompareWith (register_of a) w

-- an operator with so many arguments; one with another number stops
abbrev pub operates : Kind → ℕ → Arguments → Facts → Block
operates (Turns op) d (One a) facts = turns op d a
operates (Makes op) d (Two a b) facts = makes op d a b (known b facts)
operates (Shifts op) d (Two a b) facts = shifts op d a b (known b facts)
operates (Divides signed quotient) d (Two a b) facts = divides signed quotient d a b (known b facts)
operates (Compares condition) d (Two a b) facts = compare a b (known b facts) ∷ Flag condition (register_of d) ∷ []
operates AsksZero d (One a) facts = CompareWith (register_of a) 0 ∷ Flag Equal (register_of d) ∷ []
operates kind d arguments facts = Stop ∷ []
