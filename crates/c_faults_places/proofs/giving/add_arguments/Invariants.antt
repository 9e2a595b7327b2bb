use Rattle.std.proofs.Common.{◌≡◌, ◌++◌, map, length}
use Rattle.c_syntax.specs.Views.{expression_tree}
use Rattle.c_program.specs.Views.{term_tree}
use Rattle.c_faults_places.specs.Actions.{argument_places}
use Rattle.c_faults_places.proofs.giving.add_arguments.Given as goal

-- the places so far, and those of the arguments that are left
abbrev pub invariant-loop-left : goal.invariant-loop-left
invariant-loop-left l =
    l.places.items ++ argument_places (map expression_tree l.left) (map term_tree l.terms_left) l.rest
    ≡ l.initial.places.items ++ argument_places (map expression_tree l.arguments) (map term_tree l.terms) l.tokens

abbrev pub decreases-loop-left : goal.decreases-loop-left
decreases-loop-left l = length l.left
