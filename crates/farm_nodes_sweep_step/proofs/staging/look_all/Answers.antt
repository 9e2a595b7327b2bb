-- Why the loop of `look_all` over `j` keeps its invariant.
use Rattle.farm_nodes_sweep_step.proofs.Stepping.{looked_more}
use Rattle.farm_nodes_sweep_step.proofs.staging.look_all.Goals as goal

pub loop-j-preserved : goal.loop-j-preserved
loop-j-preserved c = (
  c.loop-j.invariant.0,
  looked_more c.loop-j.j c.look_proposer-proposer.result c.look_acceptor-acceptor.result c.args.seat.now c.loop-j.seat c.look_proposer-proposer.new.self
      c.look_acceptor-acceptor.new.self c.loop-j.invariant.1 c.look_proposer-proposer.ensures c.look_acceptor-acceptor.ensures,
)
