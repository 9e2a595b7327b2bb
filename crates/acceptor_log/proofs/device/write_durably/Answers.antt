-- A crash leaves what it left before, torn where the write is or not.
use Rattle.std.proofs.Common.{inl, inr, length}
use Rattle.durable_model.specs.Moments.{started, goes_on}
use Rattle.acceptor_log_writing.specs.Written.{MayTear}
use Rattle.acceptor_log.proofs.device.write_durably.Goals as goal

pub returns-in-Err-clause-any_moment : goal.returns-in-Err-clause-any_moment
returns-in-Err-clause-any_moment g c honest =
    let old = c.args.disk.now in
    let disk = g.D.Disk in
    let P = MayTear (disk.may_leave old) c.args.at (length c.args.bytes.now) in
    let at_start = started disk.moment disk.left_since old P (λ f left. inl (g.met.D.Disk.only_now old f honest left)) in
    goes_on disk.moment disk.left_since old old c.write_at.new.self P disk.may_leave at_start (c.write_at.ensures.time honest) (λ f now. inr (c.write_at.ensures.crash honest f now))

pub returns-in-Ok-clause-any_moment : goal.returns-in-Ok-clause-any_moment
returns-in-Ok-clause-any_moment g c honest =
    let old = c.args.disk.now in
    let disk = g.D.Disk in
    let P = MayTear (disk.may_leave old) c.args.at (length c.args.bytes.now) in
    let at_start = started disk.moment disk.left_since old P (λ f left. inl (g.met.D.Disk.only_now old f honest left)) in
    let written = goes_on disk.moment disk.left_since old old c.write_at.new.self P disk.may_leave at_start (c.write_at.ensures.time honest) (λ f now. inr (c.write_at.ensures.crash honest f now)) in
    let still = c.write_at.ensures.honest.1 honest in
    goes_on disk.moment disk.left_since old c.write_at.new.self c.sync.new.self P disk.may_leave written (c.sync.ensures.time still)
    (λ f now. inr (c.write_at.ensures.crash honest f ((c.sync.ensures.unchanged still).nothing_new f now)))
