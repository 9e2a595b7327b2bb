-- One function more of which none is wanting.
use Rattle.std.proofs.Common.{◌≢◌, None, rules, ◌∙◌, arith}
use Rattle.std.proofs.lemmas.List.{length-map}
use Rattle.farm_nodes_link.specs.Learned.{learned_by, learned_four}
use Rattle.farm_nodes_link.proofs.Wanting.{all_decided, lent_some, none_next, seen_at}
use Rattle.farm_nodes_link.proofs.learned.is_undecided.Goals as goal

pub loop-function-preserved : goal.loop-function-preserved
loop-function-preserved g c =
    let done = c.loop-function in
    let seats = c.index-seats-function.result in
    let some : c.chain_of.result ≢ None = search rules in
    none_next (learned_by c.args.seats.now) done.function (learned_four seats) done.invariant
    (seen_at learned_four c.args.seats.now done.function seats c.loop-function-test.true c.index-seats-function.is)
    (λ none. lent_some c.chain_of.result some (c.chain_of.ensures ∙ none))

pub returns : goal.returns
returns g c =
    let done = c.loop-function in (
      λ told. absurd (cc told),
      λ is. absurd (all_decided (learned_by c.args.seats.now) done.function (omega (arith, length-map c.args.seats.now learned_four, c.loop-function-test.false)) done.invariant is),
    )
