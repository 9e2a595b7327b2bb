-- Why `has_vote` meets its contract.
use Rattle.cfarm_sim.proofs.Noting.{vote_told}
use Rattle.cfarm_sim.proofs.room.has_vote.Goals as goal

pub returns : goal.returns
returns c = vote_told c.args.node.now c.args.from c.args.vote c.has_noted.result c.has_noted.ensures.is
