-- Why the loop of `redo_all` over `call` keeps the invariant.
use Rattle.std.proofs.lemmas.List.{take_more}
use Rattle.durable_model_writes.proofs.Redone.{more_redone}
use Rattle.durable_model_writes.proofs.replaying.redo_all.Goals as goal

pub loop-call-preserved : goal.loop-call-preserved
loop-call-preserved c first h is =
    let split = c.split_at_call in
    more_redone first c.args.calls.now c.loop-call.call-index _ c.args.written.now h c.loop-call.rest.now split.result.0.now
    c.loop-call.seen.items split.result.1.now c.redo.new.seen.items (take_more _ _ _ c.loop-call-test.true)
    split.ensures.bytes split.ensures.rest c.in_ok-redo.ensures (c.loop-call.invariant first h is)
