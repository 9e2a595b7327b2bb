-- Blocks in range among so many slots: what is made of an instruction in range, among however many registers and nodes.
use Rattle.std.specs.Prelude.{ℕ, ◌<◌, List, Option, Result, IfOk}
use Rattle.lang_base.specs.declared.errors.NoMemory.{NoMemory}
use Rattle.rtl_acts.specs.declared.act.Act.{Act}
use Rattle.rtl_acts.specs.declared.test.Test.{Test}
use Rattle.rtl_acts.specs.Fits.{ActFits, TestFits}
use Rattle.rtl_language.specs.declared.instruction.Instruction.{Instruction}
use Rattle.rtl_language.specs.Function.{CallFits, InstructionFits}
use Rattle.ltl.specs.declared.block.Block.{Block}
use Rattle.ltl.specs.Function.{BlockFits}

abbrev pub Made : Type 0
Made = Result Block NoMemory

abbrev pub FitsForAct : ℕ → Act → ℕ → Made → Type 0
FitsForAct slots act successor made =
    (registers nodes : ℕ) → ActFits registers act → successor < nodes → IfOk made (BlockFits slots nodes)

abbrev pub FitsForCall : ℕ → ℕ → List ℕ → Option ℕ → ℕ → Made → Type 0
FitsForCall slots callee names target successor made =
    (registers nodes : ℕ) → CallFits registers callee names target → successor < nodes → IfOk made (BlockFits slots nodes)

abbrev pub FitsForBranch : ℕ → Test → ℕ → ℕ → Made → Type 0
FitsForBranch slots test taken other made =
    (registers nodes : ℕ) → TestFits registers test → taken < nodes → other < nodes → IfOk made (BlockFits slots nodes)

abbrev pub FitsForInstruction : ℕ → Instruction → Made → Type 0
FitsForInstruction slots instruction made =
    (registers nodes : ℕ) → InstructionFits registers nodes instruction → IfOk made (BlockFits slots nodes)
