-- Behind a closed gate nothing counts, and once the blocks are whole behind it either gate is right.
use Rattle.std.proofs.Common.{◌≡◌, ◌+◌, [], ◌∷◌, ◌++◌, List, ℕ, length, subst}
use Rattle.std.specs.Result.{OnOk}
use Rattle.durable_model.specs.Writes.{overwritten}
use Rattle.durable_model.specs.Moments.{composed}
use Rattle.acceptor_log_form.specs.Text.{header_size, header_text}
use Rattle.acceptor_log_writing.specs.OneOf.{Either}
use Rattle.acceptor_log_writing.specs.Written.{MayTear}
use Rattle.acceptor_log_writing.proofs.Crash.{all_or_none-first, all_or_none-second, stands-written, next-gate}
use Rattle.acceptor_log.proofs.Runs.{both_ok, weaker}
use Rattle.acceptor_log.proofs.device.put.Goals as goal

pub returns-in-Err-clause-any_moment : goal.returns-in-Err-clause-any_moment
returns-in-Err-clause-any_moment g c h rs qs rests are_blocks =
    let disk = g.D.Disk in
    let old = c.args.disk.now in
    weaker (c.write_durably.ensures.any_moment rests.honest)
    (all_or_none-first header_size (header_text h) rs (disk.seen old) c.args.gate rests.stands rests.at_gate qs c.args.block.now are_blocks (disk.may_leave old) rests.durable (length c.args.block.now))

pub returns-in-Ok-clause-any_moment : goal.returns-in-Ok-clause-any_moment
returns-in-Ok-clause-any_moment g c h rs qs rests are_blocks =
    let disk = g.D.Disk in
    let old = c.args.disk.now in
    let mid = c.write_durably.new.disk in
    let still = c.write_durably.ensures.honest.1 rests.honest in
    composed disk.moment disk.left_since old mid c.write_durably-in-Ok.new.disk
    (MayTear (disk.may_leave old) (c.args.gate + 1) (length c.args.block.now)) (MayTear (disk.may_leave mid) c.args.gate 1) (Either h rs (rs ++ qs))
    (c.write_durably.ensures.any_moment rests.honest) (c.write_durably-in-Ok.ensures.any_moment still)
    (all_or_none-first header_size (header_text h) rs (disk.seen old) c.args.gate rests.stands rests.at_gate qs c.args.block.now are_blocks (disk.may_leave old) rests.durable (length c.args.block.now))
    (all_or_none-second header_size (header_text h) rs (disk.seen old) c.args.gate rests.stands rests.at_gate qs c.args.block.now are_blocks (disk.seen mid) (disk.may_leave mid)
    (c.in-Ok.ensures.written rests.honest) (c.in-Ok.ensures.durable rests.honest))

pub returns-in-Ok-clause-bytes : goal.returns-in-Ok-clause-bytes
returns-in-Ok-clause-bytes g c honest =
    let seen = g.D.Disk.seen in
    subst (λ (l : List ℕ). OnOk c.write_durably-in-Ok.result (seen c.write_durably-in-Ok.new.disk ≡ overwritten l c.args.gate (1 ∷ [])))
    (c.in-Ok.ensures.written honest) (c.write_durably-in-Ok.ensures.written (c.write_durably.ensures.honest.1 honest))

pub returns-in-Ok-clause-written : goal.returns-in-Ok-clause-written
returns-in-Ok-clause-written g c h rs qs rests are_blocks =
    let disk = g.D.Disk in
    let old = c.args.disk.now in
    let mid = c.write_durably.new.disk in
    let new = c.write_durably-in-Ok.new.disk in
    let still = c.write_durably.ensures.honest.1 rests.honest in
    both_ok c.write_durably-in-Ok.result (c.write_durably-in-Ok.ensures.written still) (c.write_durably-in-Ok.ensures.durable still)
    (λ written durable. record {
      honest = c.write_durably-in-Ok.ensures.honest.1 still;
      stands = stands-written header_size (header_text h) rs (disk.seen old) c.args.gate rests.stands rests.at_gate qs c.args.block.now are_blocks (disk.seen mid) (disk.seen new) (c.in-Ok.ensures.written rests.honest) written;
      at_gate = next-gate header_size (header_text h) rs (disk.seen old) c.args.gate rests.stands rests.at_gate qs c.args.block.now are_blocks;
      durable = durable;
    })
