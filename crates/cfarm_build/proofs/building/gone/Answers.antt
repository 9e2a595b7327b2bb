-- From nodes that opened to what they have linked.
use Rattle.std.proofs.Common.{◌≡◌, length, sym, ap, subst, arith}
use Rattle.std.specs.Arc.{arc_value}
use Rattle.std.specs.List.{AllByRecursion}
use Rattle.cfarm_build_turns.specs.Alike.{HaveCounted}
use Rattle.cfarm_build_turns.specs.CameBackNodes.{NodeCameBack}
use Rattle.cfarm_build_turns.specs.Neighbours.{EachTwo}
use Rattle.cfarm_build_turns.specs.Nodes.{HasFewFunctions, NodeStays}
use Rattle.cfarm_build_turns.proofs.Turning.{such_still, such_turned}
use Rattle.cfarm_build_turns.proofs.Zips.{all_weaker, as_long}
use Rattle.cfarm_build.proofs.Made.{gone_met, gone_unmet, gone_unrun}
use Rattle.cfarm_build.proofs.building.gone.Goals as goal

pub returns-in-Err-clause-gone : goal.returns-in-Err-clause-gone
returns-in-Err-clause-gone g c =
    gone_unrun g.D.Disk c.args.turns c.args.source.now c.args.nodes.items c.in-Err.nodes.items c.in-Err.ensures.came c.in-Err.ensures.fit
    c.in-Err.fault c.in-Err.ensures.refused

pub met_all-requires : goal.met_all-requires
met_all-requires g c = record {
  few = all_weaker (λ n. arc_value n.program ≡ arc_value c.args.source.now.translated) (λ n. HasFewFunctions (arc_value n.program))
      (λ n same. subst HasFewFunctions (sym same) c.requires.count) c.in-Ok.nodes.items
      (such_turned g.D.Disk (λ p. p ≡ arc_value c.args.source.now.translated) c.args.turns c.args.nodes.items c.in-Ok.nodes.items c.in-Ok.ensures.came c.requires.program);
}

pub returns-in-Err-met_all-clause-gone : goal.returns-in-Err-met_all-clause-gone
returns-in-Err-met_all-clause-gone g c =
    gone_unmet g.D.Disk c.args.turns c.args.source.now c.args.nodes.items c.in-Ok.nodes.items c.in-Ok.ensures.came c.in-Ok.ensures.fit
    c.in-Err-met_all.nodes.items c.in-Err-met_all.ensures.stay c.in-Err-met_all.fault c.in-Err-met_all.ensures.refused

pub built_by-made-requires-clause-counted : goal.built_by-made-requires-clause-counted
built_by-made-requires-clause-counted g c =
    subst (λ l. EachTwo (λ n m. HaveCounted n.seats.items m.seats.items) l) (sym c.deref.ensures.value) c.in-Ok-met_all.ensures.counted

pub built_by-made-requires-clause-some : goal.built_by-made-requires-clause-some
built_by-made-requires-clause-some g c = omega (
  arith,
  c.requires.some,
  as_long (NodeCameBack g.D.Disk c.args.turns) c.args.nodes.items c.in-Ok.nodes.items c.in-Ok.ensures.came,
  as_long (NodeStays g.D.Disk) c.in-Ok.nodes.items c.in-Ok-met_all.nodes.items c.in-Ok-met_all.ensures.stay,
  ap (λ l. length l) c.deref.ensures.value,
)

pub built_by-made-requires-clause-program : goal.built_by-made-requires-clause-program
built_by-made-requires-clause-program g c =
    subst (λ l. AllByRecursion (λ n. arc_value n.program ≡ arc_value c.args.source.now.translated) l) (sym c.deref.ensures.value)
    (such_still g.D.Disk (λ p. p ≡ arc_value c.args.source.now.translated) c.in-Ok.nodes.items c.in-Ok-met_all.nodes.items c.in-Ok-met_all.ensures.stay
    (such_turned g.D.Disk (λ p. p ≡ arc_value c.args.source.now.translated) c.args.turns c.args.nodes.items c.in-Ok.nodes.items c.in-Ok.ensures.came c.requires.program))

pub returns-clause-gone : goal.returns-clause-gone
returns-clause-gone g c =
    gone_met g.D.Disk c.args.turns c.args.source.now c.args.nodes.items c.in-Ok.nodes.items c.in-Ok.ensures.came c.in-Ok.ensures.fit
    c.in-Ok-met_all.nodes.items c.deref.result.now c.deref.ensures.value c.in-Ok-met_all.ensures.stay c.in-Ok-met_all.ensures.going c.in-Ok-met_all.ensures.twice
    c.built_by-made.result c.built_by-made.ensures.built c.built_by-made.ensures.refused
