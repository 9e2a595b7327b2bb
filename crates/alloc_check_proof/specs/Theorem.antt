-- That what register allocation accepts keeps the meaning of whole programs.
use Rattle.lang_base.specs.Keeps.{Keeps}
use Rattle.lang_base.specs.declared.program.Program.{Program}
use Rattle.lang_base.specs.Soundness.{AllFit, Accepted}
use Rattle.rtl_language.specs.Function as rtl
use Rattle.rtl_language.specs.Meaning as rtl_meaning
use Rattle.ltl.specs.Function.{FunctionData, IsFunction}
use Rattle.ltl.specs.Meaning.{run}
use Rattle.alloc_check_fill.specs.Right.{AreRight}
use Rattle.alloc_check_proof.specs.Allocated.{IsAllocated}

-- with any lists of equations that are right at each node
abbrev pub RightKeep : Type 0
RightKeep = (p : Program rtl.FunctionData) (q : Program FunctionData) → AllFit rtl.IsFunction p → AllFit IsFunction q → Accepted AreRight p q → Keeps (rtl_meaning.run p) (run q)

-- with accepted rows
abbrev pub AllocatedKeeps : Type 0
AllocatedKeeps = (p : Program rtl.FunctionData) (q : Program FunctionData) → AllFit rtl.IsFunction p → AllFit IsFunction q → Accepted IsAllocated p q → Keeps (rtl_meaning.run p) (run q)
