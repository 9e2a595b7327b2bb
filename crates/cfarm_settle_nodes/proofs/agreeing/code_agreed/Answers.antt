-- Why `code_agreed` meets its clause `agreed`.
use Rattle.cfarm_settle_nodes.proofs.Three.{agreed_code, found_too}
use Rattle.cfarm_settle_nodes.proofs.agreeing.code_agreed.Goals as goal

pub returns-clause-agreed : goal.returns-clause-agreed
returns-clause-agreed g c f all =
    found_too c.code_of.result _ _
    (λ code it.
    agreed_code g.P.In.Language g.P.Out.Language g.P.Pass f c.in-Some.node code.items c.args.first.now c.args.second.now c.args.third.now c.agreed.new.first c.agreed.new.second c.agreed.new.third
    c.requires all c.agreed.ensures.first c.agreed.ensures.second c.agreed.ensures.third c.in-Some.ensures.learned it)
    c.code_of.ensures
