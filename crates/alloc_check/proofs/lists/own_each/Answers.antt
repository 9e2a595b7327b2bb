use Rattle.alloc_check.specs.Slots.{own}
use Rattle.alloc_check.proofs.Mapped.{map_more}
use Rattle.alloc_check.proofs.lists.own_each.Goals as goal

pub loop-register-preserved : goal.loop-register-preserved
loop-register-preserved c =
    rw (c.in_ok-push.ensures.items, c.own.ensures, c.loop-register.invariant) (map_more own c.args.registers.now c.loop-register.register-index _ c.loop-register-test.true)
