-- One more name, with what was learned.
use Rattle.std.proofs.Common.{◌<◌, length, sym, ap, ◌∙◌, arith}
use native.Mathlib.Numerals.{unary_clauses}
use Rattle.farm_nodes_link.specs.Learned.{learned_four}
use Rattle.farm_nodes_link.specs.Lent.{lent}
use Rattle.farm_nodes_link.proofs.Lists.{map_next}
use Rattle.farm_nodes_link.proofs.linking.named_of.Goals as goal

pub loop-number-preserved : goal.loop-number-preserved
loop-number-preserved g c =
    let done = c.loop-number in
    let in_functions = c.loop-number-test.true in
    let in_seats : done.number < length c.args.seats.now = omega (arith, c.requires, in_functions) in
    let name = c.as_slice.ensures ∙ ap (λ f. f.name) (sym c.index-functions-number.is) in
    let names = map_next (λ n. n.name.now) (λ f. f.name) done.named.items _ c.args.functions.now done.number c.index-functions-number.result
    in_functions c.index-functions-number.is done.invariant.0 name in
    let offers = map_next (λ n. lent n.chain) learned_four done.named.items _ c.args.seats.now done.number c.index-seats-number.result
    in_seats c.index-seats-number.is done.invariant.1 c.chain_of.ensures in
    rw c.in_ok-push.ensures.items (simp unary_clauses (names, offers))
