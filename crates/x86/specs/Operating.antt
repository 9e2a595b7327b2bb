-- Operators on words, with the flags that they leave (Intel 64 and IA-32 Software Developer's Manual, volume 2: ADD, SUB, IMUL, AND, OR,
-- XOR, NEG, NOT, SAL/SAR/SHL/SHR, CDQ, IDIV, DIV).
use Rattle.std.specs.Prelude.{ℕ, Option, None}
use Rattle.std.specs.Option.{option_map}
use Rattle.x86_syntax.specs.declared.register.Register.{Register}
use Rattle.x86_syntax.specs.declared.register.Register.TheVariants.{Eax, Edx}
use Rattle.x86_syntax.specs.declared.operators.Operator.{Operator}
use Rattle.x86_syntax.specs.declared.operators.Turning.{Turning}
use Rattle.x86_syntax.specs.declared.operators.Turning.TheVariants.{Neg, Not}
use Rattle.x86_syntax.specs.declared.operators.Shifting.{Shifting}
use Rattle.x86_state.specs.Tables.{operated, flags_of, turned, shifted, sign_of, divided, divided_unsigned}
use Rattle.x86_state.specs.State.{State, word, put, with_flags}

-- a register becomes this result, and the flags are the operator's
abbrev pub with_result : Operator → Register → ℕ → State → State
with_result op target result s = with_flags (flags_of op result) (put target result s)

-- a register becomes what the operator makes of its word and another
abbrev pub done : Operator → Register → ℕ → State → State
done op target w s = with_result op target (operated op (word target s) w) s

-- `not` changes no flags
abbrev pub turned_round : Turning → Register → State → State
turned_round Neg target s = with_flags None (put target (turned Neg (word target s)) s)
turned_round Not target s = put target (turned Not (word target s)) s

-- from a count of 32 on nothing is defined
abbrev pub shifted_by : Shifting → Register → ℕ → State → Option State
shifted_by op target count s = option_map (λ w. with_flags None (put target w s)) (shifted op (word target s) count)

-- edx becomes the sign of eax; no flags are changed
abbrev pub extended : State → State
extended s = put Edx (sign_of (word Eax s)) s

-- the quotient goes to eax, the rest to edx
abbrev pub with_quotient : State → ℕ × ℕ → State
with_quotient s p = with_flags None (put Edx p.1 (put Eax p.0 s))

-- where the divisor is 0, no word holds the quotient, or the high half is no sign or no 0, nothing is defined
abbrev pub divided_by : Register → State → Option State
divided_by divisor s = option_map (with_quotient s) (divided (word Edx s) (word Eax s) (word divisor s))

abbrev pub divided_unsigned_by : Register → State → Option State
divided_unsigned_by divisor s = option_map (with_quotient s) (divided_unsigned (word Edx s) (word Eax s) (word divisor s))
