-- What is made of an act or an instruction in range is in range, by a register that is there.
use Rattle.std.specs.Prelude.{ℕ, ◌<◌, Option, IfSome}
use Rattle.rtl_acts.specs.declared.act.Act.{Act}
use Rattle.rtl_acts.specs.Fits.{ActFits}
use Rattle.rtl_passes_filled.specs.Instruction.{Instruction}
use Rattle.rtl_passes_filled.specs.Function.{InstructionFits}
use Rattle.cse_check_rules.specs.declared.equation.Equation.{Equation}

-- among however many registers and nodes, if anything is made of it
abbrev pub ActStaysInRange : ℕ → Act → Option (Equation × Act) → Type 0
ActStaysInRange register act made =
    (registers : ℕ) → register < registers → ActFits registers act → IfSome made (λ it. ActFits registers it.1)

abbrev pub StaysInRange : ℕ → Instruction → Option (Equation × Instruction) → Type 0
StaysInRange register instruction made =
    (registers nodes : ℕ) → register < registers → InstructionFits registers nodes instruction
    → IfSome made (λ it. InstructionFits registers nodes it.1)
