-- Offers that are learned are lent.
use Rattle.farm_nodes_link.specs.Learned.{learned_four}
use Rattle.cfarm_build_result.proofs.Learned.{none_lent, texts_told}
use Rattle.cfarm_build_result.proofs.bundling.texts_at.Goals as goal

pub unreachable-requires : goal.unreachable-requires
unreachable-requires g c = absurd (none_lent (learned_four c.args.numbered.now) c.in-None.ensures c.requires)

pub returns : goal.returns
returns g c =
    let told = c.texts_of.ensures in
    texts_told (learned_four c.args.numbered.now) c.in-Some.chain c.texts_of.result c.in-Some.ensures told.texts told.blocks told.accepted told.fit
