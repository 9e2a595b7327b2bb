-- Why `left_by_all` meets its clauses.
use Rattle.farm_nodes_crash.proofs.Again.{learned_again}
use Rattle.farm_nodes_crash.proofs.Heard.{heard_is_learned_again}
use Rattle.farm_nodes_crash.proofs.Journals.{left_journals_stand}
use Rattle.farm_nodes_crash.proofs.AtRest.{met_nodes_rest}
use Rattle.farm_nodes_crash.proofs.Opened.{opened_rooms_stand}
use Rattle.farm_nodes_crash.proofs.Reopening.{left_rooms_stand}
use Rattle.farm_nodes_crash.proofs.law.left_by_all.Goals as goal

pub returns-clause-journals : goal.returns-clause-journals
returns-clause-journals g c =
    left_journals_stand g.P.Disk g.P.Pair c.args.quorums g.met.P.Pair.honest_spent g.met.P.Pair.new_is_left
    (record { constants = c.one_text.ensures; expressions = c.one_text-2.ensures; allocation = c.one_text-3.ensures; order = c.one_text-4.ensures })

pub returns-clause-rooms : goal.returns-clause-rooms
returns-clause-rooms g c =
    left_rooms_stand g.P.Disk g.P.Pair c.args.quorums g.met.P.Pair.honest_spent g.met.P.Pair.new_is_left

pub returns-clause-opened : goal.returns-clause-opened
returns-clause-opened g c =
    opened_rooms_stand g.P.Disk g.P.Pair c.args.quorums g.met.P.Pair.honest_spent g.met.P.Pair.new_is_left c.nodes-count.ensures.sizes

pub returns-clause-met : goal.returns-clause-met
returns-clause-met g c = met_nodes_rest g.P.Disk g.P.Pair c.args.quorums

pub returns-clause-learned : goal.returns-clause-learned
returns-clause-learned g c =
    learned_again g.P.Disk g.P.Pair c.args.quorums c.nodes-count.ensures.sizes g.met.P.Pair.honest_spent g.met.P.Pair.new_is_left

pub returns-clause-heard : goal.returns-clause-heard
returns-clause-heard g c =
    heard_is_learned_again g.P.Disk g.P.Pair c.args.quorums c.nodes-count.ensures.sizes g.met.P.Pair.honest_spent g.met.P.Pair.new_is_left
