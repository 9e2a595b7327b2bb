-- Why `judged` meets its contract.
use Rattle.std.proofs.Common.{IsTrue}
use Rattle.farm_nodes_turn_passes.specs.Fours.{fours_of}
use Rattle.farm_nodes_restart_records.proofs.Leaving.{judged_is}
use Rattle.farm_nodes_restart_records.proofs.finding.judged.Goals as goal

pub returns : goal.returns
returns g c =
    judged_is (fours_of c.args.seats.now.items) c.args.whole.now c.args.front.now c.args.last c.both.result c.are_kept-all.result
    (IsTrue c.are_kept-before.result) c.told.result c.are_kept-before.ensures c.are_kept-all.ensures c.both.ensures
    c.told.ensures.pending c.told.ensures.whole c.told.ensures.neither
