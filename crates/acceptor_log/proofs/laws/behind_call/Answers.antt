use Rattle.acceptor_log.proofs.Runs.{at_end}
use Rattle.acceptor_log.proofs.laws.behind_call.Goals as goal

pub returns-clause-between : goal.returns-clause-between
returns-clause-between g c h low high before after bytes honest run left =
    at_end g.D.Disk.may_leave (λ t b le now. g.met.D.Disk.counts_now after t b honest le now) run bytes left

pub returns-clause-whole : goal.returns-clause-whole
returns-clause-whole g c h low high before after bytes honest run left =
    at_end g.D.Disk.may_leave (λ t b le now. g.met.D.Disk.counts_now after t b honest le now) run bytes left
