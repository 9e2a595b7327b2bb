use Rattle.std.proofs.Common.{◌≡◌, take, map}
use Rattle.c_program.specs.Views.{function_tree}
use Rattle.cminor_lowering.specs.Programs.{low_named}
use Rattle.cminor.proofs.functions.lower_functions.Given as goal

abbrev pub invariant-loop-function : goal.invariant-loop-function
invariant-loop-function l = l.lowered.items ≡ map low_named (map function_tree (take l.function-index l.functions))
