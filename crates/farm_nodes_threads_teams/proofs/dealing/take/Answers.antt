-- Why `take` meets its clause `some`.
use Rattle.std.proofs.Common.{vec_items}
use Rattle.farm_nodes_threads_teams.proofs.Stacks.{taken_one}
use Rattle.farm_nodes_threads_teams.proofs.dealing.take.Goals as goal

pub returns-clause-some : goal.returns-clause-some
returns-clause-some g c =
    taken_one vec_items c.args.teams.now c.args.place c.index-teams-place.result c.pop.new.self c.pop.result c.requires c.pop.ensures.items
