-- Why `lives` may call `back_over`.
use Rattle.std.proofs.Common.{◌∙◌}
use Rattle.worked_farm.proofs.Thirds.{has_nodes}
use Rattle.worked_farm.proofs.failing.lives.Goals as goal

pub back_over-requires-clause-nodes : goal.back_over-requires-clause-nodes
back_over-requires-clause-nodes g c =
    let digest = c.args.source.now.digest in
    has_nodes c.was_stopped.new.node.log.header digest
    (c.was_stopped.ensures.header ∙ c.in-Some-parted.ensures.third digest (c.in-Some.ensures.third digest c.requires.third))
