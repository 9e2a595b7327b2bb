use Rattle.std.proofs.Common.{◌≡◌, ◌++◌}
use Rattle.c_faults_places.proofs.Lists.{places_from}
use Rattle.c_faults_places.proofs.actions.+walking.Given as goal

-- the places so far, and those of the statements that are left
abbrev pub invariant-add_actions-loop-statement : goal.invariant-add_actions-loop-statement
invariant-add_actions-loop-statement l =
    l.places.items ++ places_from l.statement-index l.statements l.left l.rest ≡ l.initial.places.items ++ places_from 0 l.statements l.actions l.tokens
