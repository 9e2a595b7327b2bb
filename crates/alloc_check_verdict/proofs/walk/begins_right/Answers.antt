-- Why `begins_right` meets its contract.
use Rattle.std.proofs.Common.{◌≡◌, arith}
use Rattle.alloc_check_verdict.proofs.walk.begins_right.Goals as goal

pub returns-else-n-from : goal.returns-else-n-from
returns-else-n-from c =
    let here : c.args.n ≡ c.args.input.now.entry = omega (arith, c.if-n-from.false, c.entry.ensures, c.from.ensures) in
    let hold = rw (c.as_slice.ensures, c.as_slice-else-n-from.ensures, c.parameters.ensures, c.parameters-else-n-from.ensures) at c.hold_at_entry.ensures in
    (λ yes is. hold.0 yes, λ begins. hold.1 (begins here))
