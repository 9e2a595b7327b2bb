use Rattle.std.proofs.Common.{ℕ, ◌<◌, slice_index_or}
use Rattle.c_program.specs.declared.term.Term.{Term}
use Rattle.c_program.specs.Views.{term_tree}
use Rattle.cminor_lowering.specs.Held.{HasWords}
use Rattle.cminor_lowering.proofs.words.each_term_words.Given as goal

abbrev pub invariant-loop-term : goal.invariant-loop-term
invariant-loop-term l = (k : ℕ) (d : Term) → k < l.term-index → HasWords (term_tree (slice_index_or l.terms k d))
