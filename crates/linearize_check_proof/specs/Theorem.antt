-- That what is laid out keeps the meaning of whole programs.
use Rattle.lang_base.specs.Keeps.{Keeps}
use Rattle.lang_base.specs.declared.program.Program.{Program}
use Rattle.lang_base.specs.Soundness.{Accepted}
use Rattle.ltl.specs.Function.{FunctionData}
use Rattle.ltl.specs.Meaning.{run}
use Rattle.linear_language.specs.Function as linear
use Rattle.linear_language.specs.Meaning as code
use Rattle.linearize_check_proof.specs.Rules.{IsLaidOut}

abbrev pub LaidOutKeeps : Type 0
LaidOutKeeps = (p : Program FunctionData) (q : Program linear.FunctionData) → Accepted IsLaidOut p q → Keeps (run p) (code.run q)
