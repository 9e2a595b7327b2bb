-- Why `opens_again` meets its contract.
use Rattle.cfarm_build_crash.proofs.Left.{build_opens_again}
use Rattle.cfarm_build_crash.proofs.law.opens_again.Goals as goal

pub returns : goal.returns
returns g c =
    build_opens_again g.D.Disk g.D.Pair g.H.Naming c.args.quorums c.nodes-count.ensures.sizes g.met.D.Pair.honest_spent g.met.D.Pair.new_is_left
    (record { constants = c.one_text.ensures; expressions = c.one_text-2.ensures; allocation = c.one_text-3.ensures; order = c.one_text-4.ensures })
    c.args.source.now c.args.given.now c.args.back.now c.args.built.now c.args.left.now
