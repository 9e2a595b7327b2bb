use Rattle.alloc_check.specs.Slots.{slot}
use Rattle.alloc_check.proofs.Mapped.{map_more}
use Rattle.alloc_check.proofs.nodes.slots_of.Goals as goal

pub loop-register-preserved : goal.loop-register-preserved
loop-register-preserved c =
    rw (c.in_ok-push.ensures.items, c.loop-register.invariant) (map_more slot c.args.registers.now c.loop-register.register-index _ c.loop-register-test.true)
