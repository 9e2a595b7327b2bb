-- Each node of a function in range is in range.
use Rattle.std.proofs.Common.{◌≡◌, ◌<◌, ℕ, List, length, get_or, sym, subst, ap, ◌∙◌}
use Rattle.std.proofs.lemmas.List.Elements.{All-from_recursion}
use Rattle.rtl_language.specs.declared.instruction.Instruction.{Instruction}
use Rattle.rtl_language.specs.Function.{FunctionData, InstructionFits, IsFunction}

pub node_fits : (f : FunctionData) → IsFunction f → (nodes : List Instruction) → nodes ≡ f.nodes → (n : ℕ) (i : Instruction) → n < length nodes → i ≡ get_or nodes n i → InstructionFits f.registers (length f.nodes) i
node_fits f fits nodes same n i below is =
    let here : n < length f.nodes = subst (λ (xs : List Instruction). n < length xs) same below in
    let read = is ∙ ap (λ xs. get_or xs n i) same in
    subst (InstructionFits f.registers (length f.nodes)) (sym read) (All-from_recursion (InstructionFits f.registers (length f.nodes)) f.nodes fits.each n i here)
