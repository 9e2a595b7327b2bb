-- The disk rests on what was listed.
use Rattle.std.proofs.Common.{◌≡◌, length, arith}
use Rattle.acceptor_log.proofs.Ready.{first_of-rests, rests-first_of, counted-first_of}
use Rattle.acceptor_log.proofs.log.Log.open.Goals as goal

pub returns-in-Ok-clause-acknowledged : goal.returns-in-Ok-clause-acknowledged
returns-in-Ok-clause-acknowledged g c honest =
    let disk = g.D.Disk in
    let found = c.in-Ok.found in
    let counted : c.len.result ≡ length found.records.items = omega (arith, c.len.ensures, found.records.ok.0) in
    first_of-rests disk c.args.header.now found.records.items found.gate c.len.result c.load.new.disk (c.in-Ok.ensures.rests honest) counted

pub returns-in-Ok-clause-sound : goal.returns-in-Ok-clause-sound
returns-in-Ok-clause-sound g c honest going =
    let disk = g.D.Disk in
    let found = c.in-Ok.found in
    let rests = c.in-Ok.ensures.rests (c.load.ensures.honest.0 honest) in
    let counted : c.len.result ≡ length found.records.items = omega (arith, c.len.ensures, found.records.ok.0) in
    record {
      rests = rests-first_of disk c.args.header.now found.records.items found.gate c.len.result c.load.new.disk rests counted;
      counted = counted-first_of disk c.args.header.now found.records.items found.gate c.len.result c.load.new.disk rests counted;
    }
