use Rattle.std.proofs.Common.{◌≡◌, map, length, ◌++◌}
use Rattle.c_syntax.specs.Views.{expression_tree}
use Rattle.c_program.specs.Views.{term_tree}
use Rattle.c_checker_rules.specs.Calls as C
use Rattle.c_checker_rules.specs.Terms.{term_of}
use Rattle.c_checker_terms.proofs.calls.check_arguments.Given as goal

-- what is left has the faults of the whole, and its terms end those of the whole
abbrev pub invariant-loop-rest : goal.invariant-loop-rest
invariant-loop-rest l =
    (C.arguments_faults l.scope (map expression_tree l.arguments) ≡ C.arguments_faults l.scope (map expression_tree l.rest))
    × (map (term_of l.scope) (map expression_tree l.arguments) ≡ map term_tree l.terms.items ++ map (term_of l.scope) (map expression_tree l.rest))

abbrev pub decreases-loop-rest : goal.decreases-loop-rest
decreases-loop-rest l = length l.rest
