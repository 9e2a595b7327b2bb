use Rattle.farm_nodes_meet_seats.specs.Held.{held_of}
use Rattle.farm_nodes_meet_seats.proofs.Places.{MetBefore, Met, Links}
use Rattle.farm_nodes_meet_seats.proofs.meeting.meet_all_seats.Given as goal

-- the first functions' seats have met
abbrev pub invariant-loop-function : goal.invariant-loop-function
invariant-loop-function g l =
    MetBefore
    (Met held_of)
    (Links held_of)
    l.initial.first l.initial.second l.first l.second l.function l.count
