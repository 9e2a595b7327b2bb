-- Why `open_three` meets its clause `third`.
use Rattle.std.proofs.Common.{map}
use Rattle.worked_farm.proofs.Thirds.{third_opened}
use Rattle.worked_farm.proofs.turning.open_three.Goals as goal

pub returns-in-Ok-clause-third : goal.returns-in-Ok-clause-third
returns-in-Ok-clause-third g c =
    third_opened g.P.Disk g.P.Pair c.in-Some.quorums c.in-Ok.farm.source.digest c.args.disks.items (map (λ n. n.log) c.in-Ok.farm.nodes.items)
    c.requires.disks c.in-Some.ensures.1 c.in-Ok.ensures.journals
