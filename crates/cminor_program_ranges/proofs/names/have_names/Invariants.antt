use Rattle.std.proofs.Common.{ℕ, ◌<◌, slice_index_or}
use Rattle.c_lexer_lexemes.specs.Lexemes.{IsName}
use Rattle.c_program.specs.declared.function.Function.{Function}
use Rattle.cminor_program_ranges.proofs.names.have_names.Given as goal

abbrev pub invariant-loop-function : goal.invariant-loop-function
invariant-loop-function l = (k : ℕ) (d : Function) → k < l.function-index → IsName (slice_index_or l.functions k d).name
