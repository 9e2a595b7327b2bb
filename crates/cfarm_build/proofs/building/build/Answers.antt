-- From the farm that opened to what it has linked.
use Rattle.std.proofs.Common.{◌≡◌, ◌≤◌, length, sym, ap, subst, arith, inl, refl}
use Rattle.std.proofs.lemmas.List.{length-map}
use Rattle.std.specs.Arc.{arc_value}
use Rattle.farm_nodes_source.specs.declared.source.Source.{Source}
use Rattle.cfarm_build_turns.proofs.Zips.{all_of, as_long}
use Rattle.cfarm_build_turns.specs.CameBackNodes.{NodeCameBack}
use Rattle.cfarm_build_turns.specs.Nodes.{NodeStays}
use Rattle.cfarm_build.specs.Gone.{HaveGone}
use Rattle.cfarm_build.proofs.Made.{as_many, built_so, opened_so, unbuilt_so}
use Rattle.cfarm_build.proofs.building.build.Goals as goal

pub returns-in_default-clause-refused : goal.returns-in_default-clause-refused
returns-in_default-clause-refused g c = inl refl

pub gone-made-requires-clause-some : goal.gone-made-requires-clause-some
gone-made-requires-clause-some g c =
    omega (arith, c.nodes-nodes.ensures.sizes.least, c.requires.size, c.requires.oracles, ap length c.in-Ok-over.ensures.oracles, length-map c.in-Ok-over.farm.nodes.items (λ n. n.oracles))

pub gone-made-requires-clause-count : goal.gone-made-requires-clause-count
gone-made-requires-clause-count g c κs within = subst (λ (s : Source). length (arc_value s.translated).functions ≤ 64) (sym c.in-Ok-over.ensures.source) c.requires.count

pub gone-made-requires-clause-program : goal.gone-made-requires-clause-program
gone-made-requires-clause-program g c κs within =
    all_of (λ n. arc_value n.program ≡ arc_value c.in-Ok-over.farm.source.translated) c.in-Ok-over.farm.nodes.items c.in-Ok-over.ensures.program

-- there is room for the disks
pub disks_back-requires-clause-capacity : goal.disks_back-requires-clause-capacity
disks_back-requires-clause-capacity g c =
    let gone = c.gone-made.ensures.gone in
    let nodes = c.in-Ok-over.farm.nodes.items in
    omega (
      arith,
      c.in-Ok.ensures.capacity,
      c.len.ensures,
      c.args.disks.ok.0,
      c.gone-made.result.1.ok.0,
      as_long (NodeStays g.D.Disk) gone.ran c.gone-made.result.1.items gone.met,
      as_long (NodeCameBack g.D.Disk c.args.turns) nodes gone.ran gone.turned,
      c.requires.oracles,
      ap length c.in-Ok-over.ensures.oracles,
      length-map nodes (λ n. n.oracles),
    )

pub returns-clause-built : goal.returns-clause-built
returns-clause-built g c =
    let on = c.in-Ok-over.ensures in
    let farm = c.in-Ok-over.farm in
    built_so g.D.Disk g.D.Pair c.args.quorums c.args.seed c.args.turns c.args.source c.args.disks.items farm.nodes.items _
    (opened_so g.D.Disk g.D.Pair c.args.quorums c.args.seed c.args.source farm.source c.args.disks.items farm.nodes.items on.source on.journals on.rooms on.draws on.program on.going)
    c.disks_back.result.items c.disks_back.ensures c.gone-made.result.0
    (subst (λ (s : Source). HaveGone g.D.Disk c.args.turns s farm.nodes.items c.gone-made.result.1.items c.gone-made.result.0) on.source c.gone-made.ensures.gone)

pub returns-clause-refused : goal.returns-clause-refused
returns-clause-refused g c =
    let on = c.in-Ok-over.ensures in
    let farm = c.in-Ok-over.farm in
    unbuilt_so g.D.Disk g.D.Pair c.args.quorums c.args.seed c.args.turns c.args.source c.args.disks.items farm.nodes.items _
    (opened_so g.D.Disk g.D.Pair c.args.quorums c.args.seed c.args.source farm.source c.args.disks.items farm.nodes.items on.source on.journals on.rooms on.draws on.program on.going)
    c.disks_back.result.items c.disks_back.ensures c.gone-made.result.0
    (subst (λ (s : Source). HaveGone g.D.Disk c.args.turns s farm.nodes.items c.gone-made.result.1.items c.gone-made.result.0) on.source c.gone-made.ensures.gone)

-- as many come back as were given
pub returns-in-Err-clause-back : goal.returns-in-Err-clause-back
returns-in-Err-clause-back g c = c.in-Err.ensures.refused.returned.count

pub returns-clause-back : goal.returns-clause-back
returns-clause-back g c =
    let on = c.in-Ok-over.ensures in
    let farm = c.in-Ok-over.farm in
    as_many g.D.Disk g.D.Pair c.args.quorums c.args.seed c.args.turns c.args.source c.args.disks.items farm.nodes.items _
    (opened_so g.D.Disk g.D.Pair c.args.quorums c.args.seed c.args.source farm.source c.args.disks.items farm.nodes.items on.source on.journals on.rooms on.draws on.program on.going)
    c.disks_back.result.items c.disks_back.ensures c.gone-made.result.0
    (subst (λ (s : Source). HaveGone g.D.Disk c.args.turns s farm.nodes.items c.gone-made.result.1.items c.gone-made.result.0) on.source c.gone-made.ensures.gone)
