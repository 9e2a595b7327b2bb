-- Why `add` meets its clauses `ok` and `same`.
use Rattle.std.proofs.Common.{vec_items}
use Rattle.farm_nodes_threads_teams.proofs.Stacks.{add_is, same_set}
use Rattle.farm_nodes_threads_teams.proofs.dealing.add.Goals as goal

pub returns-in-Ok-clause-ok : goal.returns-in-Ok-clause-ok
returns-in-Ok-clause-ok g c =
    add_is vec_items c.args.teams.now c.args.place c.index-teams-place.result c.push.new.self c.args.member c.requires c.in-Ok.ensures.items

pub returns-in-Err-clause-same : goal.returns-in-Err-clause-same
returns-in-Err-clause-same g c = same_set vec_items c.args.teams.now c.args.place c.index-teams-place.result c.push.new.self c.in-Err.ensures.items
