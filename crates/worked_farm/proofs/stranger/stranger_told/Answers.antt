-- Why `stranger_told` may call `refused_over` and `back_over`.
use Rattle.std.proofs.Common.{◌∙◌}
use Rattle.worked_farm.proofs.Thirds.{has_nodes}
use Rattle.worked_farm.proofs.stranger.stranger_told.Goals as goal

-- it has the third node's header, which no refusal changes
pub refused_over-requires-clause-nodes : goal.refused_over-requires-clause-nodes
refused_over-requires-clause-nodes g c =
    let digest = c.in-Some-whole.farm.source.digest in
    has_nodes c.in-Some-parted.node.log.header digest (c.in-Some-parted.ensures.third digest c.in-Some-whole.ensures.third)

pub refused_over-requires-2-clause-nodes : goal.refused_over-requires-2-clause-nodes
refused_over-requires-2-clause-nodes g c =
    let digest = c.in-Some-whole.farm.source.digest in
    has_nodes c.in-Some-refused_over.node.log.header digest
    (c.in-Some-refused_over.ensures.header ∙ c.in-Some-parted.ensures.third digest c.in-Some-whole.ensures.third)

pub back_over-requires-clause-nodes : goal.back_over-requires-clause-nodes
back_over-requires-clause-nodes g c =
    let digest = c.in-Some-whole.farm.source.digest in
    has_nodes c.in-Some-refused_over-2.node.log.header digest
    (c.in-Some-refused_over-2.ensures.header ∙ (c.in-Some-refused_over.ensures.header
    ∙ c.in-Some-parted.ensures.third digest c.in-Some-whole.ensures.third))
