use Rattle.std.proofs.Common.{ℕ, ◌<◌, ◌^◌, slice_index_or}
use Rattle.std.specs.List.{AllByRecursion}
use Rattle.c_program.specs.declared.function.GlobalVariable.{GlobalVariable}
use Rattle.cminor_program_ranges.proofs.words.globals_words.Given as goal

abbrev pub invariant-loop-global : goal.invariant-loop-global
invariant-loop-global l = (k : ℕ) (d : GlobalVariable) → k < l.global-index → AllByRecursion (λ w. w < 2 ^ 32) (slice_index_or l.globals k d).first_words
