use Rattle.std.proofs.Common.{◌≡◌, take, map}
use Rattle.c_program.specs.Views.{term_tree}
use Rattle.cminor_syntax.specs.Views.{expression_tree}
use Rattle.cminor_lowering.specs.Terms.{low_term}
use Rattle.cminor.proofs.terms.lower_terms.Given as goal

abbrev pub invariant-loop-term : goal.invariant-loop-term
invariant-loop-term l = map expression_tree l.lowered.items ≡ map low_term (map term_tree (take l.term-index l.terms))
