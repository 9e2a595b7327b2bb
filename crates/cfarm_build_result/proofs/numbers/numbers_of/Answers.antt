-- One function more.
use Rattle.farm_nodes_link.specs.Learned.{learned_by, learned_four}
use Rattle.farm_nodes_link.proofs.Wanting.{seen_at, some_at}
use Rattle.cfarm_build_result.specs.Told.{function_names}
use Rattle.cfarm_build_result.proofs.Learning.{at_place}
use Rattle.cfarm_build_result.proofs.Numbering.{one_told}
use Rattle.cfarm_build_result.proofs.numbers.numbers_of.Goals as goal

pub told-requires : goal.told-requires
told-requires g c =
    let done = c.loop-function in
    let seats = c.index-seats-function.result in
    some_at (learned_by c.args.seats.now) done.function (learned_four seats) c.requires.decided
    (seen_at learned_four c.args.seats.now done.function seats c.loop-function-test.true c.index-seats-function.is)

pub loop-function-preserved : goal.loop-function-preserved
loop-function-preserved g c =
    let done = c.loop-function in
    let seats = c.index-seats-function.result in
    rw c.in_ok-push.ensures.items
    (one_told (function_names c.args.program.now) c.args.seats.now done.function done.functions.items c.told.result _ seats
    done.invariant c.in_ok-name.ensures (at_place c.args.seats.now done.function seats c.loop-function-test.true c.index-seats-function.is) c.told.ensures)
