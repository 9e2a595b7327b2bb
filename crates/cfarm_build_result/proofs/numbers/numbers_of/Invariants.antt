use Rattle.cfarm_build_result.specs.Told.{function_names}
use Rattle.cfarm_build_result.proofs.Numbering.{AreTolds}
use Rattle.cfarm_build_result.proofs.numbers.numbers_of.Given as goal

-- of the first functions it is told
abbrev pub invariant-loop-function : goal.invariant-loop-function
invariant-loop-function g l = AreTolds (function_names l.program) l.seats l.function l.functions.items
