-- What is made of an instruction in range is in range.
use Rattle.std.specs.Prelude.{ℕ, Option, IfSome}
use Rattle.rtl_passes_filled.specs.Instruction.{Instruction}
use Rattle.rtl_passes_filled.specs.Function.{InstructionFits}

-- among however many registers and nodes, if anything is made of it
abbrev pub StaysInRange : Instruction → Option Instruction → Type 0
StaysInRange instruction made =
    (registers nodes : ℕ) → InstructionFits registers nodes instruction → IfSome made (InstructionFits registers nodes)
