-- Why `own_code` meets its contract.
use Rattle.cfarm_settle_nodes.proofs.Three.{own_code_of}
use Rattle.cfarm_settle_nodes.proofs.agreeing.own_code.Goals as goal

pub returns : goal.returns
returns g c =
    own_code_of g.P.In.Language g.P.Out.Language g.P.Pass c.args.seat.now c.me.result c.in-Some.offer.now c.new-code.result.items c.write.new.out.items c.output.result.now
    c.me.ensures.value c.in-Some.ensures c.validated.ensures.accepted c.offer_keeps.ensures c.new-code.ensures.items c.output.ensures c.in_ok-write.ensures.ok
