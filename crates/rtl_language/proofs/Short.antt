-- A function's calls have arguments few enough for a byte to say how many.
use Rattle.std.proofs.Common.{ℕ, zero, suc, ◌<◌, ◌≤◌, List, [], ◌∷◌, length, get_or, arith}
use Rattle.std.specs.List.{AllByRecursion}
use Rattle.rtl_acts.specs.Fits.{argument_limit}
use Rattle.rtl_language.specs.declared.instruction.Instruction.{Instruction}
use Rattle.rtl_language.specs.declared.instruction.Instruction.TheVariants.{Do, Call, Branch, Return}
use Rattle.rtl_language.specs.Function.{InstructionFits, arguments_of, HasShortList}

arguments_short : (registers nodes : ℕ) (i : Instruction) → InstructionFits registers nodes i → length (arguments_of i) ≤ argument_limit
arguments_short registers nodes (Do act successor) fits = omega arith
arguments_short registers nodes (Call function arguments target successor) fits = fits.0.few
arguments_short registers nodes (Branch test taken other) fits = omega arith
arguments_short registers nodes (Return value) fits = omega arith

pub all_short : (registers nodes : ℕ) (is : List Instruction) → AllByRecursion (InstructionFits registers nodes) is → (k : ℕ) (d : Instruction) → k < length is → HasShortList (get_or is k d)
all_short registers nodes [] fits k d below = absurd (omega arith)
all_short registers nodes (i ∷ is) fits zero d below = record { arguments = arguments_short registers nodes i fits.0 }
all_short registers nodes (i ∷ is) fits (suc k) d below = all_short registers nodes is fits.1 k d (omega arith)
