-- One more name, with its offers.
use Rattle.std.proofs.Common.{◌<◌, length, sym, ap, ◌∙◌, arith}
use native.Mathlib.Numerals.{unary_clauses}
use Rattle.chains.proofs.Beside.{beside_next}
use Rattle.chains.proofs.linking.named_of.Goals as goal

pub loop-number-preserved : goal.loop-number-preserved
loop-number-preserved c =
    let done = c.loop-number in
    let in_functions = c.loop-number-test.true in
    let in_offers : done.number < length c.args.offers.now = omega (arith, c.requires, in_functions) in
    let name = c.as_slice.ensures ∙ ap (λ f. f.name) (sym c.index-functions-number.is) in
    let more = beside_next c.args.functions.now c.args.offers.now done.number done.named.items c.index-functions-number.result c.index-offers-number.result _
    in_functions in_offers c.index-functions-number.is c.index-offers-number.is done.invariant (record { name = name; lends = c.chain.ensures }) in
    rw c.in_ok-push.ensures.items (simp unary_clauses more)
