-- Why `seats_at_rest` meets its clauses `left`, `opened`, `held` and `learned`.
use Rattle.rooms_crash.proofs.Holding.{held_is_recorded}
use Rattle.rooms_crash.proofs.Resting.{learns_again, opened_rest, rest_leaves}
use Rattle.rooms_crash.proofs.law.seats_at_rest.Goals as goal

pub returns-clause-left : goal.returns-clause-left
returns-clause-left c = rest_leaves

pub returns-clause-opened : goal.returns-clause-opened
returns-clause-opened c = opened_rest

pub returns-clause-held : goal.returns-clause-held
returns-clause-held c = held_is_recorded

pub returns-clause-learned : goal.returns-clause-learned
returns-clause-learned c = learns_again
