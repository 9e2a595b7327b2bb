-- Why `offer_again` meets its clause `ok`, and it may call `lay_again`.
use Rattle.std.proofs.Common.{arith}
use Rattle.farm_nodes_restart_seat.proofs.Offers.{has_text, took_offer}
use Rattle.farm_nodes_restart_seat.proofs.taking.offer_again.Goals as goal

pub lay_again-requires-after_bounds : goal.lay_again-requires-after_bounds
lay_again-requires-after_bounds g c κs within =
    (omega arith, has_text _ c.args.room c.args.seat.now _ c.in-Offered.text c.args.entry.now c.in-Offered.is c.requires c.as_slice.result.now c.as_slice.ensures)

pub returns-clause-ok : goal.returns-clause-ok
returns-clause-ok g c =
    took_offer _ c.args.room c.args.seat.now _ c.in-Offered.text c.args.entry.now c.in-Offered.is c.requires c.as_slice.result.now
    c.lay_again.new.seat c.lay_again.result c.as_slice.ensures c.lay_again.ensures.ok
