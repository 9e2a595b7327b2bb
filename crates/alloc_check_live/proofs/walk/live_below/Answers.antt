-- Why `live_below` meets its contract, and it may call `follow`.
use Rattle.std.proofs.Common.{◌≡◌, subst, arith}
use Rattle.alloc_check_live.specs.Liveness.{used_of}
use Rattle.alloc_check_live.specs.Lists.{AreLiveBelow}
use Rattle.alloc_check_live.proofs.Tables.{those_of}
use Rattle.alloc_check_live.proofs.walk.live_below.Goals as goal

pub follow-requires-clause-users : goal.follow-requires-clause-users
follow-requires-clause-users c =
    rw (c.numbers_at-used_at.ensures, c.as_slice.ensures.value)
    (those_of used_of c.args.nodes.now c.args.registers c.in_ok-users.users.items c.in_ok-users.ensures c.loop-register.register c.loop-register-test.true)

pub returns : goal.returns
returns c =
    let all : c.loop-register.register ≡ c.args.registers = omega arith in
    subst (λ r. AreLiveBelow c.args.nodes.now r c.loop-register.found.items) all c.loop-register.invariant
