-- Why `seats_of` meets its clauses `refused` and `ok`, its loop over `node` keeps the invariant, and it may call `next_seat`.
use Rattle.std.proofs.Common.{◌≡◌, ℕ, ◌+◌, ◌<◌, true, not, List, length, length-set, is_ok, sym, ap, ◌∙◌, subst, arith}
use Rattle.std.specs.Arc.{arc_value}
use Rattle.rooms_seat.specs.Dealing.{Dealing}
use Rattle.rooms.specs.declared.error.RoomError.TheVariants as error
use Rattle.rooms.specs.Opened.{opened_first}
use Rattle.rooms.proofs.Openings.{any_offer, fit_next, pushed, same_error, seats_more, take_left, taken}
use Rattle.rooms.proofs.room.seats_of.Goals as goal

pub next_seat-requires-after_bounds : goal.next_seat-requires-after_bounds
next_seat-requires-after_bounds g c κs within =
    let low : c.loop-node.node < length c.args.offers.items = omega (arith, c.loop-node-test.true, c.len-node-end.ensures, c.args.offers.ok.0) in
    let size : length c.loop-node.offers.items ≡ length c.args.offers.items = c.loop-node.invariant.size in
    let below : c.loop-node.node < c.args.dealer.opening.quorums.nodes = subst (λ (n : ℕ). c.loop-node.node < n) c.requires.offers low in (
      omega arith,
      (
        omega arith,
        (
          subst (λ (x : Dealing). x.next < x.opening.quorums.nodes) (sym c.loop-node.invariant.dealer) below,
          fit_next c.args.offers.items c.loop-node.node c.take-offer.result c.args.dealer c.loop-node.dealer c.loop-node.invariant.dealer c.requires.fit below
              (taken c.loop-node.offers.items c.args.offers.items c.loop-node.node c.index_mut.result.now c.take-offer.result (omega arith) c.take-offer.ensures.value c.index_mut.ensures.value c.loop-node.invariant.left),
        ),
      ),
    )

pub returns-in-Err-clause-refused : goal.returns-in-Err-clause-refused
returns-in-Err-clause-refused g c e =
    let low : c.loop-node.node < length c.args.offers.items = omega (arith, c.loop-node-test.true, c.len-node-end.ensures, c.args.offers.ok.0) in
    let size : length c.loop-node.offers.items ≡ length c.args.offers.items = c.loop-node.invariant.size in
    any_offer c.args.offers.items c.loop-node.node c.take-offer.result
    (taken c.loop-node.offers.items c.args.offers.items c.loop-node.node c.index_mut.result.now c.take-offer.result (omega arith) c.take-offer.ensures.value c.index_mut.ensures.value c.loop-node.invariant.left)
    (c.in-Err.ensures.refused (same_error c.in-Err.error error.CellRefused e))

pub loop-node-preserved : goal.loop-node-preserved
loop-node-preserved g c =
    let low : c.loop-node.node < length c.args.offers.items = omega (arith, c.loop-node-test.true, c.len-node-end.ensures, c.args.offers.ok.0) in
    let size : length c.loop-node.offers.items ≡ length c.args.offers.items = c.loop-node.invariant.size in
    let went : is_ok c.push.result ≡ true = c.is_err.ensures.negation ∙ ap not c.if-is_err.false in
    record {
      dealer = c.in-Ok-next_seat.ensures.ok ∙ ap (λ (d : Dealing). record d { next = d.next + 1 }) c.loop-node.invariant.dealer;
      seats = seats_more c.args.dealer.table (arc_value c.in-Ok.shelf) c.args.dealer.opening c.args.offers.items c.loop-node.node c.loop-node.dealer c.take-offer.result
          c.loop-node.seats.items c.push.new.self.items c.in-Ok-next_seat.seat c.loop-node.invariant.dealer c.loop-node.invariant.seats
          (taken c.loop-node.offers.items c.args.offers.items c.loop-node.node c.index_mut.result.now c.take-offer.result (omega arith) c.take-offer.ensures.value c.index_mut.ensures.value c.loop-node.invariant.left)
          c.in-Ok-next_seat.ensures.seat (pushed (is_ok c.push.result) c.push.new.self.items _ _ went c.push.ensures.items);
      size = length-set c.loop-node.offers.items c.loop-node.node c.take-offer.new.self ∙ size;
      left = take_left c.loop-node.offers.items c.args.offers.items c.loop-node.node c.take-offer.new.self c.loop-node.invariant.left;
    }

pub returns-clause-ok : goal.returns-clause-ok
returns-clause-ok g c =
    let all : c.loop-node.node ≡ length c.args.offers.items = omega (arith, c.loop-node-test.false, c.loop-node.auto.node-end) in
    record {
      cells = arc_value c.in-Ok.shelf;
      size = ap (λ (xs : List ℕ). length xs) c.in-Ok.ensures.ok ∙ c.new.ensures;
      seats_are = c.loop-node.invariant.seats ∙ ap (λ (n : ℕ). opened_first c.args.dealer.table (arc_value c.in-Ok.shelf) c.args.dealer.opening c.args.offers.items n) (all ∙ c.requires.offers);
    }
