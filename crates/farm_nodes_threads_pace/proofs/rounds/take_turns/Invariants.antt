use Rattle.std.specs.List.{AllZip}
use Rattle.farm_nodes_threads_pace.specs.After.{Goes}
use Rattle.farm_nodes_threads_pace.proofs.rounds.take_turns.Given as goal

-- each player is as turns left it
abbrev pub invariant-loop : goal.invariant-loop
invariant-loop g l = AllZip (λ p q. Goes g.N.TakesTurns.turned g.N.TakesTurns.is_fit p.node p.left q.node q.left) l.initial.players l.players
