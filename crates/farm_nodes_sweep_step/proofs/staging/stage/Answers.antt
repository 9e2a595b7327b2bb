-- Why `stage` meets its clause `some`.
use Rattle.farm_nodes_turn_step.proofs.Steps.{pending_is}
use Rattle.farm_nodes_sweep_step.proofs.Stepping.{may_step}
use Rattle.farm_nodes_sweep_step.proofs.staging.stage.Goals as goal

pub returns-clause-some : goal.returns-clause-some
returns-clause-some c =
    let s = c.args.seat.now in
    let a = c.in-Some.act in
    let x = c.in-Some-intent.step in
    record {
      next = c.in-Some.ensures.some;
      among = c.in-Some.ensures.among;
      entry = pending_is c.args.room s a x c.record_of.result c.in-Some-intent.ensures c.record_of.ensures;
      may = may_step c.args.room s a x c.record_of.result c.bounds.ensures c.in-Some.ensures.among c.in-Some-intent.ensures c.record_of.ensures;
    }
