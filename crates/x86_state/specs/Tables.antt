-- What instructions make of words, and when conditions hold (Intel 64 and IA-32 Software Developer's Manual, volume 2: ADD, SUB, IMUL,
-- AND, OR, XOR, NEG, NOT, SAL/SAR/SHL/SHR, CDQ, IDIV, DIV, CMP, Jcc, SETcc).
use Rattle.std.specs.Prelude.{ℕ, ◌+◌, ◌-◌, ◌%◌, ◌^◌, Bool, not, [], ◌∷◌, Option, Some, None, if◌then◌else◌, nat_eq, nat_lt, nat_le, int_lt, int_le, pos, ◌+ℤ◌, ◌-ℤ◌, ◌*ℤ◌, neg_ℤ, bit_and, bit_or, bit_xor}
use Rattle.ints.specs.Words.{signed, wrapped}
use Rattle.ints.specs.MachineTable.{machine_table}
use Rattle.ints.specs.declared.operators.Op.{Op}
use Rattle.ints.specs.declared.operators.Op.TheVariants as op
use Rattle.x86_syntax.specs.declared.condition.Condition.{Condition}
use Rattle.x86_syntax.specs.declared.condition.Condition.TheVariants.{Equal, NotEqual, Less, LessOrEqual, Below, BelowOrEqual, AboveOrEqual}
use Rattle.x86_syntax.specs.declared.operators.Operator.{Operator}
use Rattle.x86_syntax.specs.declared.operators.Operator.TheVariants.{Add, Sub, Mul, And, Or, Xor}
use Rattle.x86_syntax.specs.declared.operators.Turning.{Turning}
use Rattle.x86_syntax.specs.declared.operators.Turning.TheVariants.{Neg, Not}
use Rattle.x86_syntax.specs.declared.operators.Shifting.{Shifting}
use Rattle.x86_syntax.specs.declared.operators.Shifting.TheVariants.{Shl, Shr, Sar}

-- the sum, difference and product are cut to their low 32 bits; imul reads words as signed
unfoldable pub operated : Operator → ℕ → ℕ → ℕ
operated Add x y = wrapped (pos x +ℤ pos y)
operated Sub x y = wrapped (pos x -ℤ pos y)
operated Mul x y = wrapped (signed x *ℤ signed y)
operated And x y = bit_and x y
operated Or x y = bit_or x y
operated Xor x y = bit_xor x y

-- the words that the flags tell of: after and, or, xor they are set as if the result had been compared with 0; the overflow that add,
-- sub and imul may leave is not used
unfoldable pub flags_of : Operator → ℕ → Option (ℕ × ℕ)
flags_of And result = Some (result, 0)
flags_of Or result = Some (result, 0)
flags_of Xor result = Some (result, 0)
flags_of _ result = None

unfoldable pub turned : Turning → ℕ → ℕ
turned Neg x = wrapped (neg_ℤ (pos x))
turned Not x = 2 ^ 32 - 1 - x

-- the operator on words that does what a shift does: shl and shr fill with zeros, sar with the sign
abbrev pub op_of_shift : Shifting → Op
op_of_shift Shl = op.ShlU
op_of_shift Shr = op.ShrU
op_of_shift Sar = op.ShrS

-- a word shifted by less than 32; the processor takes a count modulo 32, and no code here rests on that
abbrev pub shifted : Shifting → ℕ → ℕ → Option ℕ
shifted s x count = machine_table (op_of_shift s) (x ∷ count ∷ [])

-- 32 copies of the sign bit
abbrev pub sign_of : ℕ → ℕ
sign_of w = if nat_lt w (2 ^ 31) then 0 else 2 ^ 32 - 1

abbrev pub both : Option ℕ → Option ℕ → Option (ℕ × ℕ)
both None y = None
both (Some x) None = None
both (Some x) (Some y) = Some (x, y)

-- Quotient and rest of the signed number whose halves are these, cut toward zero; where the high half is no more than the sign of the
-- low one. The processor faults where the divisor is 0 and where no word holds the quotient.
abbrev pub divided : ℕ → ℕ → ℕ → Option (ℕ × ℕ)
divided high low divisor =
    if nat_eq high (sign_of low) then both (machine_table op.DivS (low ∷ divisor ∷ [])) (machine_table op.ModS (low ∷ divisor ∷ [])) else None

-- the same, all read as unsigned, where the high half is 0
abbrev pub divided_unsigned : ℕ → ℕ → ℕ → Option (ℕ × ℕ)
divided_unsigned high low divisor =
    if nat_eq high 0 then both (machine_table op.DivU (low ∷ divisor ∷ [])) (machine_table op.ModU (low ∷ divisor ∷ [])) else None

-- whether a condition holds where these were compared
unfoldable pub condition_table : Condition → ℕ → ℕ → Bool
condition_table Equal x y = nat_eq x y
condition_table NotEqual x y = not (nat_eq x y)
condition_table Less x y = int_lt (signed x) (signed y)
condition_table LessOrEqual x y = int_le (signed x) (signed y)
condition_table Below x y = nat_lt x y
condition_table BelowOrEqual x y = nat_le x y
condition_table AboveOrEqual x y = nat_le y x

-- a word with another low byte
abbrev pub with_low_byte : ℕ → ℕ → ℕ
with_low_byte w byte = w - w % 256 + byte
