use Rattle.acceptor_log.proofs.Ready.{first_of-rests, rests-first_of, counted-first_of}
use Rattle.acceptor_log.proofs.log.Log.resting.Goals as goal

pub returns-clause-ready : goal.returns-clause-ready
returns-clause-ready g c rs counted rests =
    let disk = g.D.Disk in
    record {
      rests = rests-first_of disk c.args.header.now rs c.args.gate c.args.count c.args.disk rests counted;
      counted = counted-first_of disk c.args.header.now rs c.args.gate c.args.count c.args.disk rests counted;
    }

pub returns-clause-acknowledged : goal.returns-clause-acknowledged
returns-clause-acknowledged g c rs counted rests =
    let disk = g.D.Disk in
    first_of-rests disk c.args.header.now rs c.args.gate c.args.count c.args.disk rests counted
