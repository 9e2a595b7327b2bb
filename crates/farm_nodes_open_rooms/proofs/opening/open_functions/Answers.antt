-- The rooms of one function more are open.
use Rattle.std.proofs.Common.{◌≡◌, ℕ, length, All, sym, subst, ◌∙◌, arith}
use Rattle.std.proofs.lemmas.List.{length-map}
use Rattle.farm_nodes_turn_passes.specs.declared.which.Which.TheVariants.{Constants, Expressions, Allocation, Order}
use Rattle.farm_nodes_open_lists.specs.Rows.{rows_of}
use Rattle.farm_nodes_open_rooms.proofs.Rooms.{all_left_next, before_first, before_room, none_open, none_taken, offers_here, open_next, settled_again}
use Rattle.farm_nodes_open_rooms.proofs.opening.open_functions.Goals as goal

pub returns-in-Err-clause-before : goal.returns-in-Err-clause-before
returns-in-Err-clause-before g c = before_first c.args.quorums c.args.kept.now 0 c.no_memory.result.room (λ f low. absurd (omega (arith, low))) c.no_memory.ensures.room

pub loop-function-init : goal.loop-function-init
loop-function-init g c = record {
  count = c.in-Ok.ensures.count;
  opened = none_open c.args.quorums c.args.kept.now c.args.offers (rows_of c.in-Ok.nodes.items) c.in-Ok.ensures.none;
  left = none_taken c.args.offers;
}

pub open_function-requires-clause-offers1 : goal.open_function-requires-clause-offers1
open_function-requires-clause-offers1 g c =
    offers_here c.args.kept.now Constants c.args.functions c.loop-function.function (rows_of c.args.offers.constants.items) (rows_of c.loop-function.left.constants.items)
    c.requires.offers1 c.loop-function-test.true c.loop-function.invariant.left.constants

pub open_function-requires-clause-offers2 : goal.open_function-requires-clause-offers2
open_function-requires-clause-offers2 g c =
    offers_here c.args.kept.now Expressions c.args.functions c.loop-function.function (rows_of c.args.offers.expressions.items) (rows_of c.loop-function.left.expressions.items)
    c.requires.offers2 c.loop-function-test.true c.loop-function.invariant.left.expressions

pub open_function-requires-clause-offers3 : goal.open_function-requires-clause-offers3
open_function-requires-clause-offers3 g c =
    offers_here c.args.kept.now Allocation c.args.functions c.loop-function.function (rows_of c.args.offers.allocation.items) (rows_of c.loop-function.left.allocation.items)
    c.requires.offers3 c.loop-function-test.true c.loop-function.invariant.left.allocation

pub open_function-requires-clause-offers4 : goal.open_function-requires-clause-offers4
open_function-requires-clause-offers4 g c =
    offers_here c.args.kept.now Order c.args.functions c.loop-function.function (rows_of c.args.offers.order.items) (rows_of c.loop-function.left.order.items)
    c.requires.offers4 c.loop-function-test.true c.loop-function.invariant.left.order

pub add_each-requires : goal.add_each-requires
add_each-requires g c = c.in-Ok-open_function.ensures.opened.count ∙ sym c.loop-function.invariant.count

pub loop-function-preserved : goal.loop-function-preserved
loop-function-preserved g c =
    let n = c.loop-function.function in
    let i = c.loop-function.invariant in
    let nodes = c.loop-function.nodes.items in
    let left = c.loop-function.left in
    record {
      count = c.add_each.ensures.count ∙ i.count;
      opened =
          open_next c.args.quorums c.args.kept.now n c.args.offers left (rows_of nodes) (rows_of c.add_each.new.lists.items) c.in-Ok-open_function.seats.items
          (length-map nodes (λ v. v.items) ∙ i.count) c.in-Ok-add_each.ensures.added i.left c.in-Ok-open_function.ensures.opened i.opened;
      left = all_left_next n c.args.offers left c.open_function.new.offers i.left c.in-Ok-open_function.ensures.others;
    }

pub returns-in-Err-open_function-clause-room : goal.returns-in-Err-open_function-clause-room
returns-in-Err-open_function-clause-room g c memory = omega (arith, c.in-Err-open_function.ensures.told.of_function, c.loop-function-test.true)

pub returns-in-Err-open_function-clause-before : goal.returns-in-Err-open_function-clause-before
returns-in-Err-open_function-clause-before g c =
    before_room c.args.quorums c.args.kept.now c.loop-function.function c.in-Err-open_function.unopened.room c.loop-function.invariant.opened.settled
    c.in-Err-open_function.ensures.told.of_function c.in-Err-open_function.ensures.told.before

pub returns-in-Err-open_function-clause-left : goal.returns-in-Err-open_function-clause-left
returns-in-Err-open_function-clause-left g c left is =
    c.in-Err-open_function.ensures.told.unsettled is
    (settled_again c.args.quorums c.args.kept.now c.args.functions c.in-Err-open_function.unopened.room (omega (arith, c.in-Err-open_function.ensures.told.of_function, c.loop-function-test.true)) left)

pub returns-in-Err-add_each-clause-before : goal.returns-in-Err-add_each-clause-before
returns-in-Err-add_each-clause-before g c =
    before_first c.args.quorums c.args.kept.now c.loop-function.function c.no_memory-in-Err-add_each.result.room c.loop-function.invariant.opened.settled c.no_memory-in-Err-add_each.ensures.room

pub returns-clause-functions : goal.returns-clause-functions
returns-clause-functions g c =
    let all : c.loop-function.function ≡ c.args.functions = omega (arith, c.loop-function-test.false, c.loop-function.auto.function-end) in
    subst (λ (k : ℕ). All (λ row. length row ≡ k) (rows_of c.loop-function.nodes.items)) all c.loop-function.invariant.opened.long

pub returns-clause-constants : goal.returns-clause-constants
returns-clause-constants g c f low = c.loop-function.invariant.opened.constants f (omega (arith, low, c.loop-function-test.false, c.loop-function.auto.function-end))

pub returns-clause-expressions : goal.returns-clause-expressions
returns-clause-expressions g c f low = c.loop-function.invariant.opened.expressions f (omega (arith, low, c.loop-function-test.false, c.loop-function.auto.function-end))

pub returns-clause-allocation : goal.returns-clause-allocation
returns-clause-allocation g c f low = c.loop-function.invariant.opened.allocation f (omega (arith, low, c.loop-function-test.false, c.loop-function.auto.function-end))

pub returns-clause-order : goal.returns-clause-order
returns-clause-order g c f low = c.loop-function.invariant.opened.order f (omega (arith, low, c.loop-function-test.false, c.loop-function.auto.function-end))

pub returns-clause-settled : goal.returns-clause-settled
returns-clause-settled g c f low = c.loop-function.invariant.opened.settled f (omega (arith, low, c.loop-function-test.false, c.loop-function.auto.function-end))
