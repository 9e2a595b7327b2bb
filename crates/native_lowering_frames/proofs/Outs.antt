-- The most arguments past the fourth.
use Rattle.std.proofs.Common.{◌≡◌, ℕ, ◌≤◌, ◌-◌, List, [], ◌∷◌, length, max, arith}
use Rattle.std.specs.List.{AllByRecursion}
use Rattle.linear_language.specs.declared.instruction.Instruction.{Instruction}
use Rattle.linear_language.specs.declared.instruction.Instruction.TheVariants.{Do, Copy, Call, Branch, Return, Label, Goto}
use Rattle.linear_language.specs.Function.{InstructionFits, arguments_of}
use Rattle.native_lowering_definition.specs.Frames.{outs_of}

low_at : (slots : ℕ) (i : Instruction) → InstructionFits slots i → length (arguments_of i) - 4 ≤ 251
low_at slots (Do act) fits = omega arith
low_at slots (Copy step) fits = omega arith
low_at slots (Call function arguments target) fits = omega (arith, fits.few)
low_at slots (Branch test label) fits = omega arith
low_at slots (Return value) fits = omega arith
low_at slots (Label label) fits = omega arith
low_at slots (Goto label) fits = omega arith

-- a byte holds it
pub low : (slots : ℕ) (is : List Instruction) → AllByRecursion (InstructionFits slots) is → outs_of is ≤ 251
low slots [] fits = omega arith
low slots (i ∷ is) fits = omega (arith, low_at slots i fits.0, low slots is fits.1)
