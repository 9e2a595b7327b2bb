use Rattle.std.proofs.Common.{◌≡◌, [], map, replicate, vec_items}
use Rattle.farm_nodes_threads_teams.proofs.dealing.no_teams.Given as goal

abbrev pub invariant-loop : goal.invariant-loop
invariant-loop g l = map vec_items l.teams.items ≡ replicate l.counter []
