-- Why `meet_all_seats` meets its contract, and its loop over `function` keeps the invariant.
use Rattle.std.proofs.Common.{◌≡◌, length, arith}
use Rattle.farm_nodes_meet_seats.specs.Held.{held_of}
use Rattle.farm_nodes_meet_seats.proofs.Places.{Met, Links, met_none, met_next, met_not, met_all}
use Rattle.farm_nodes_meet_seats.proofs.meeting.meet_all_seats.Goals as goal

pub returns-then-first-second : goal.returns-then-first-second
returns-then-first-second g c =
    met_not held_of c.args.first.now c.args.second.now (λ e. let never : ⊥ = omega (arith, e, c.if-first-second.true) in never)

pub loop-function-init : goal.loop-function-init
loop-function-init g c = met_none (Met held_of) (Links held_of) c.args.first.now c.args.second.now

pub loop-function-preserved : goal.loop-function-preserved
loop-function-preserved g c =
    let long : length c.args.first.now ≡ length c.args.second.now = omega (arith, c.if-first-second.false) in
    met_next held_of c.args.first.now c.args.second.now c.loop-function.first c.loop-function.second c.loop-function.function
    c.loop-function.count c.one_more-count.result c.index-first-function.result c.index-second-function.result c.meet_in_function-both.new.first c.meet_in_function-both.new.second
    c.meet_in_function-both.result c.loop-function-test.true long c.loop-function.invariant c.meet_in_function-both.ensures
    c.one_more-count.ensures

pub returns : goal.returns
returns g c =
    let long : length c.args.first.now ≡ length c.args.second.now = omega (arith, c.if-first-second.false) in
    let end : c.loop-function.function ≡ length c.args.first.now = omega (arith, c.loop-function-test.false, c.loop-function.auto.function-end) in
    met_all held_of c.args.first.now c.args.second.now c.loop-function.first c.loop-function.second c.loop-function.function c.loop-function.count
    long end c.loop-function.invariant
