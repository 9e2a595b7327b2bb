-- Why `play_in` meets its clauses `served`, `going`, `stays`, `made` and 6 more, and it may call `play_behind`.
use denote.Param.Send.{sendable}
use Rattle.std.proofs.Common.{◌≡◌, true, refl}
use Rattle.farm_nodes_turn_passes.specs.Fours.{four_of}
use Rattle.farm_nodes_turn_passes.specs.declared.which.Which.TheVariants.{Constants, Expressions, Allocation, Order}
use Rattle.farm_nodes_turn_passes.proofs.Sent.{function_send, function_sync}
use Rattle.farm_nodes_turn_function.proofs.Inputs.{on_ok, stands_after}
use Rattle.farm_nodes_turn_function.proofs.in_pass.play_in.Goals as goal

pub returns-in-Constants-clause-served : goal.returns-in-Constants-clause-served
returns-in-Constants-clause-served g c = c.play_first.ensures.served

pub returns-in-Constants-clause-going : goal.returns-in-Constants-clause-going
returns-in-Constants-clause-going g c = c.play_first.ensures.going

pub returns-in-Constants-clause-stays : goal.returns-in-Constants-clause-stays
returns-in-Constants-clause-stays g c = rw c.in-Constants.is c.play_first.ensures.stays

pub returns-in-Constants-clause-made : goal.returns-in-Constants-clause-made
returns-in-Constants-clause-made g c = rw c.in-Constants.is c.play_first.ensures.made

pub returns-in-Constants-clause-after : goal.returns-in-Constants-clause-after
returns-in-Constants-clause-after g c =
    let old = four_of c.args.numbered.now in
    rw c.in-Constants.is
    (stands_after c.play_first.result Constants c.args.draws.now c.play_first.new.draws old (record old { constants = c.play_first.new.seat })
    (on_ok c.play_first.result (c.play_first.new.seat.words.node.kept.offered ≡ true)
    (Unit {0} → c.play_first.new.seat.words.node.kept.offered ≡ true)
    (λ offered known. offered) c.play_first.ensures.offered) c.play_first.ensures.quiet c.play_first.ensures.proposed c.play_first.ensures.led c.play_first.ensures.drawn)

pub returns-in-Constants-clause-draws : goal.returns-in-Constants-clause-draws
returns-in-Constants-clause-draws g c = rw c.in-Constants.is c.play_first.ensures.by_lot

pub returns-in-Constants-clause-left : goal.returns-in-Constants-clause-left
returns-in-Constants-clause-left g c = rw c.in-Constants.is c.play_first.ensures.left

pub returns-in-Constants-clause-journal : goal.returns-in-Constants-clause-journal
returns-in-Constants-clause-journal g c = rw c.in-Constants.is c.play_first.ensures.journal

pub returns-in-Constants-clause-cause : goal.returns-in-Constants-clause-cause
returns-in-Constants-clause-cause g c = rw c.in-Constants.is c.play_first.ensures.cause

pub returns-in-Expressions-clause-served : goal.returns-in-Expressions-clause-served
returns-in-Expressions-clause-served g c = c.play_behind.ensures.served

pub returns-in-Expressions-clause-going : goal.returns-in-Expressions-clause-going
returns-in-Expressions-clause-going g c = c.play_behind.ensures.going

pub returns-in-Expressions-clause-stays : goal.returns-in-Expressions-clause-stays
returns-in-Expressions-clause-stays g c = rw c.in-Expressions.is c.play_behind.ensures.stays

pub returns-in-Expressions-clause-made : goal.returns-in-Expressions-clause-made
returns-in-Expressions-clause-made g c = rw c.in-Expressions.is c.play_behind.ensures.made

pub returns-in-Expressions-clause-after : goal.returns-in-Expressions-clause-after
returns-in-Expressions-clause-after g c =
    let old = four_of c.args.numbered.now in
    rw c.in-Expressions.is
    (stands_after c.play_behind.result Expressions c.args.draws.now c.play_behind.new.draws old (record old { expressions = c.play_behind.new.seat })
    c.play_behind.ensures.offered c.play_behind.ensures.quiet c.play_behind.ensures.proposed c.play_behind.ensures.led c.play_behind.ensures.drawn)

pub returns-in-Expressions-clause-draws : goal.returns-in-Expressions-clause-draws
returns-in-Expressions-clause-draws g c = rw c.in-Expressions.is c.play_behind.ensures.by_lot

pub returns-in-Expressions-clause-left : goal.returns-in-Expressions-clause-left
returns-in-Expressions-clause-left g c = rw c.in-Expressions.is c.play_behind.ensures.left

pub returns-in-Expressions-clause-journal : goal.returns-in-Expressions-clause-journal
returns-in-Expressions-clause-journal g c = rw c.in-Expressions.is c.play_behind.ensures.journal

pub returns-in-Expressions-clause-cause : goal.returns-in-Expressions-clause-cause
returns-in-Expressions-clause-cause g c = rw c.in-Expressions.is c.play_behind.ensures.cause

pub returns-in-Allocation-clause-served : goal.returns-in-Allocation-clause-served
returns-in-Allocation-clause-served g c = c.play_behind-in-Allocation.ensures.served

pub returns-in-Allocation-clause-going : goal.returns-in-Allocation-clause-going
returns-in-Allocation-clause-going g c = c.play_behind-in-Allocation.ensures.going

pub returns-in-Allocation-clause-stays : goal.returns-in-Allocation-clause-stays
returns-in-Allocation-clause-stays g c = rw c.in-Allocation.is c.play_behind-in-Allocation.ensures.stays

pub returns-in-Allocation-clause-made : goal.returns-in-Allocation-clause-made
returns-in-Allocation-clause-made g c = rw c.in-Allocation.is c.play_behind-in-Allocation.ensures.made

pub returns-in-Allocation-clause-after : goal.returns-in-Allocation-clause-after
returns-in-Allocation-clause-after g c =
    let old = four_of c.args.numbered.now in
    rw c.in-Allocation.is
    (stands_after c.play_behind-in-Allocation.result Allocation c.args.draws.now c.play_behind-in-Allocation.new.draws old (record old { allocation = c.play_behind-in-Allocation.new.seat })
    c.play_behind-in-Allocation.ensures.offered c.play_behind-in-Allocation.ensures.quiet c.play_behind-in-Allocation.ensures.proposed c.play_behind-in-Allocation.ensures.led c.play_behind-in-Allocation.ensures.drawn)

pub returns-in-Allocation-clause-draws : goal.returns-in-Allocation-clause-draws
returns-in-Allocation-clause-draws g c = rw c.in-Allocation.is c.play_behind-in-Allocation.ensures.by_lot

pub returns-in-Allocation-clause-left : goal.returns-in-Allocation-clause-left
returns-in-Allocation-clause-left g c = rw c.in-Allocation.is c.play_behind-in-Allocation.ensures.left

pub returns-in-Allocation-clause-journal : goal.returns-in-Allocation-clause-journal
returns-in-Allocation-clause-journal g c = rw c.in-Allocation.is c.play_behind-in-Allocation.ensures.journal

pub returns-in-Allocation-clause-cause : goal.returns-in-Allocation-clause-cause
returns-in-Allocation-clause-cause g c = rw c.in-Allocation.is c.play_behind-in-Allocation.ensures.cause

pub returns-in-Order-clause-served : goal.returns-in-Order-clause-served
returns-in-Order-clause-served g c = c.play_behind-in-Order.ensures.served

pub returns-in-Order-clause-going : goal.returns-in-Order-clause-going
returns-in-Order-clause-going g c = c.play_behind-in-Order.ensures.going

pub returns-in-Order-clause-stays : goal.returns-in-Order-clause-stays
returns-in-Order-clause-stays g c = rw c.in-Order.is c.play_behind-in-Order.ensures.stays

pub returns-in-Order-clause-made : goal.returns-in-Order-clause-made
returns-in-Order-clause-made g c = rw c.in-Order.is c.play_behind-in-Order.ensures.made

pub returns-in-Order-clause-after : goal.returns-in-Order-clause-after
returns-in-Order-clause-after g c =
    let old = four_of c.args.numbered.now in
    rw c.in-Order.is
    (stands_after c.play_behind-in-Order.result Order c.args.draws.now c.play_behind-in-Order.new.draws old (record old { order = c.play_behind-in-Order.new.seat })
    c.play_behind-in-Order.ensures.offered c.play_behind-in-Order.ensures.quiet c.play_behind-in-Order.ensures.proposed c.play_behind-in-Order.ensures.led c.play_behind-in-Order.ensures.drawn)

pub returns-in-Order-clause-draws : goal.returns-in-Order-clause-draws
returns-in-Order-clause-draws g c = rw c.in-Order.is c.play_behind-in-Order.ensures.by_lot

pub returns-in-Order-clause-left : goal.returns-in-Order-clause-left
returns-in-Order-clause-left g c = rw c.in-Order.is c.play_behind-in-Order.ensures.left

pub returns-in-Order-clause-journal : goal.returns-in-Order-clause-journal
returns-in-Order-clause-journal g c = rw c.in-Order.is c.play_behind-in-Order.ensures.journal

pub returns-in-Order-clause-cause : goal.returns-in-Order-clause-cause
returns-in-Order-clause-cause g c = rw c.in-Order.is c.play_behind-in-Order.ensures.cause

pub returns-in-Constants-clause-others : goal.returns-in-Constants-clause-others
returns-in-Constants-clause-others g c = rw c.in-Constants.is refl

pub returns-in-Expressions-clause-others : goal.returns-in-Expressions-clause-others
returns-in-Expressions-clause-others g c = rw c.in-Expressions.is refl

pub returns-in-Allocation-clause-others : goal.returns-in-Allocation-clause-others
returns-in-Allocation-clause-others g c = rw c.in-Allocation.is refl

pub returns-in-Order-clause-others : goal.returns-in-Order-clause-others
returns-in-Order-clause-others g c = rw c.in-Order.is refl

pub play_behind-requires-in-Allocation-send-P-Out-Fun : goal.play_behind-requires-in-Allocation-send-P-Out-Fun
play_behind-requires-in-Allocation-send-P-Out-Fun g c κs within = search (function_send, sendable) depth 40

pub play_behind-requires-in-Allocation-sync-P-Out-Fun : goal.play_behind-requires-in-Allocation-sync-P-Out-Fun
play_behind-requires-in-Allocation-sync-P-Out-Fun g c κs within = search (function_sync, sendable) depth 40

pub play_behind-requires-in-Order-send-B-Out-Fun : goal.play_behind-requires-in-Order-send-B-Out-Fun
play_behind-requires-in-Order-send-B-Out-Fun g c κs within = search (function_send, sendable) depth 40

pub play_behind-requires-in-Order-sync-B-Out-Fun : goal.play_behind-requires-in-Order-sync-B-Out-Fun
play_behind-requires-in-Order-sync-B-Out-Fun g c κs within = search (function_sync, sendable) depth 40
