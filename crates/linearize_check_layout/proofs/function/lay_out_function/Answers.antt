-- Why `lay_out_function` may call `new`.
use Rattle.std.proofs.Common.{arith}
use Rattle.linearize_check_layout.proofs.InRange.{order_code-in_range, all_below}
use Rattle.linearize_check_layout.proofs.function.lay_out_function.Goals as goal

pub new-requires : goal.new-requires
new-requires c =
    let below = all_below c.args.order.now (λ k. omega (arith, c.type_inv.order k)) in
    let fits = order_code-in_range _ c.args.order.now c.blocks-2.ensures.in_range c.requires.few below c.requires.distinct in
    rw (c.from_vec.ensures, c.in_ok-parameters.ensures.items, c.as_slice.ensures, c.parameters.ensures, c.slots.ensures, c.from_vec-2.ensures, c.in_ok-code.ensures, c.as_slice-2.ensures, c.blocks-2.ensures.blocks) fits
