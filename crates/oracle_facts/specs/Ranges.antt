-- What is made of an instruction in range is in range, among so many registers and however many nodes.
use Rattle.std.specs.Prelude.{ℕ, Option, Result, IfOk, IfSome}
use Rattle.lang_base.specs.declared.errors.NoMemory.{NoMemory}
use Rattle.rtl_language.specs.declared.instruction.Instruction.{Instruction}
use Rattle.rtl_language.specs.Function.{InstructionFits}

-- unless memory was refused
abbrev pub StaysInRange : ℕ → Instruction → Result Instruction NoMemory → Type 0
StaysInRange registers instruction made =
    (nodes : ℕ) → InstructionFits registers nodes instruction → IfOk made (InstructionFits registers nodes)

-- if anything is made of it
abbrev pub MayBecome : ℕ → Instruction → Option Instruction → Type 0
MayBecome registers instruction made =
    (nodes : ℕ) → InstructionFits registers nodes instruction → IfSome made (InstructionFits registers nodes)
