-- One function more, of which none is wanting.
use Rattle.std.proofs.Common.{arith, subst}
use native.Mathlib.Numerals.{unary_clauses}
use Rattle.std.proofs.lemmas.List.{length-map, take_all}
use Rattle.farm_nodes_link.specs.Learned.{learned_by, learned_four}
use Rattle.cfarm_build_result.specs.Bundled.{AreTextsOf}
use Rattle.farm_nodes_link.proofs.Wanting.{seen_at, some_at}
use Rattle.cfarm_build_result.proofs.Learned.{texts_next}
use Rattle.cfarm_build_result.proofs.bundling.all_texts.Goals as goal

pub texts_at-requires : goal.texts_at-requires
texts_at-requires g c =
    let done = c.loop-function in
    let seats = c.index-seats-function.result in
    some_at (learned_by c.args.seats.now) done.function (learned_four seats) c.requires
    (seen_at learned_four c.args.seats.now done.function seats c.loop-function-test.true c.index-seats-function.is)

pub loop-function-preserved : goal.loop-function-preserved
loop-function-preserved g c =
    let done = c.loop-function in
    let seats = c.index-seats-function.result in
    let here = seen_at learned_four c.args.seats.now done.function seats c.loop-function-test.true c.index-seats-function.is in
    rw c.in_ok-push.ensures.items (simp unary_clauses
    (texts_next (learned_by c.args.seats.now) done.texts.items done.function (learned_four seats) c.in_ok-texts_at.field-0 here done.invariant c.in_ok-texts_at.ensures))

pub returns : goal.returns
returns g c =
    let done = c.loop-function in
    let learned = learned_by c.args.seats.now in
    let all = take_all done.function learned (omega (arith, length-map c.args.seats.now learned_four, c.loop-function-test.false)) in
    subst (λ l. AreTextsOf l done.texts.items) all done.invariant
