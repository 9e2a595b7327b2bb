-- Why the loop of `thirds` over `number` keeps the invariant.
use Rattle.std.proofs.Common.{◌<◌, length, arith}
use native.Mathlib.Numerals.{unary_clauses}
use Rattle.cfarm_emit.proofs.Outputs.{thirds_next}
use Rattle.cfarm_emit.proofs.thirds.thirds.Goals as goal

pub loop-number-preserved : goal.loop-number-preserved
loop-number-preserved c =
    let done = c.loop-number in
    let in_functions = c.loop-number-test.true in
    let in_offers : done.number < length c.args.offers.now = omega (arith, c.requires, in_functions) in
    rw c.in_ok-push.ensures.items (simp unary_clauses
    (thirds_next c.args.functions.now c.args.offers.now done.number done.made.items c.index-functions-number.result c.index-offers-number.result c.in_ok-third.field-0
    in_functions in_offers c.index-functions-number.is c.index-offers-number.is done.invariant c.in_ok-third.ensures))
