use Rattle.std.proofs.Common.{ℕ, ◌<◌, slice_index_or}
use Rattle.c_program.specs.declared.function.Function.{Function}
use Rattle.c_program.specs.Views.{function_tree}
use Rattle.cminor_lowering.specs.Held.{IsHeldFunction}
use Rattle.cminor_lowering_ranges.proofs.fitting.functions_held.Given as goal

abbrev pub invariant-loop-function : goal.invariant-loop-function
invariant-loop-function l = (k : ℕ) (d : Function) → k < l.function-index → IsHeldFunction (function_tree (slice_index_or l.functions k d))
