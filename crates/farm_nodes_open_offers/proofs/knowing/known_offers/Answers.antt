-- Each offer is put down as that of its function, once the answer to it was yes.
use Rattle.std.proofs.Common.{◌+◌, ◌≤◌, [], ◌∷◌, ◌++◌, length, take, refl, sym, ap, ◌∙◌, arith}
use Rattle.std.proofs.lemmas.List.{take_more, take_all, length-drop}
use Rattle.std.proofs.lemmas.List.Elements.{All-nil, All-push, All-same}
use Rattle.std.specs.Vec.Iter.{into_iter_items}
use Rattle.farm_nodes_open_offers.specs.Known.{IsAccepted}
use Rattle.farm_nodes_open_offers.proofs.Placing.{next_of, stand_none, stand_on, stand_whole, fronts_same}
use Rattle.farm_nodes_open_offers.proofs.Answering.{as_many, accepted, unaccepted}
use Rattle.farm_nodes_open_offers.proofs.knowing.known_offers.Goals as goal

pub loop-found-init : goal.loop-found-init
loop-found-init g c =
    let gives = c.into_iter-found-iterator.ensures.into_iter_gives in
    record {
      rest = gives.0;
      counted = omega (arith, gives.1, ap length gives.0, c.args.stored.parts.ok.0);
      within = omega arith;
      stand = stand_none c.args.functions c.in_ok-offers.offers.items c.in_ok-offers.ensures.count c.in_ok-offers.ensures.none;
      accepted = All-nil (IsAccepted g.P.Pass.accepts);
    }

pub bounds-answers-at : goal.bounds-answers-at
bounds-answers-at g c =
    let next = next_of c.args.stored.parts.items c.loop-found.at c.in-Some.found (into_iter_items c.next.new.self) (sym c.loop-found.invariant.rest ∙ c.in-Some.ensures.steps.0) in
    omega (arith, next.within, as_many g.P.Pass.accepts c.args.stored.parts.items c.args.answers.now c.requires.answers)

pub returns-then-not-answers-at-clause-refused : goal.returns-then-not-answers-at-clause-refused
returns-then-not-answers-at-clause-refused g c memory =
    let next = next_of c.args.stored.parts.items c.loop-found.at c.in-Some.found (into_iter_items c.next.new.self) (sym c.loop-found.invariant.rest ∙ c.in-Some.ensures.steps.0) in
    let breaks = unaccepted g.P.Pass.accepts c.args.stored.parts.items c.args.answers.now c.requires.answers c.loop-found.at c.in-Some.found next.got c.if-not-answers-at.true in
    (refl, record { at = c.loop-found.at; parts = c.in-Some.found; stands = next.got; refused = breaks })

pub known-offer-requires-after_bounds : goal.known-offer-requires-after_bounds
known-offer-requires-after_bounds g c κs within =
    let next = next_of c.args.stored.parts.items c.loop-found.at c.in-Some.found (into_iter_items c.next.new.self) (sym c.loop-found.invariant.rest ∙ c.in-Some.ensures.steps.0) in
    accepted g.P.Pass.accepts c.args.stored.parts.items c.args.answers.now c.requires.answers c.loop-found.at c.in-Some.found next.got c.if-not-answers-at.false

pub loop-found-preserved : goal.loop-found-preserved
loop-found-preserved g c =
    let xs = c.args.stored.parts.items in
    let rooms = c.args.stored.rooms.items in
    let at = c.loop-found.at in
    let x = c.in-Some.found in
    let i = c.loop-found.invariant in
    let steps = c.in-Some.ensures.steps in
    let next = next_of xs at x (into_iter_items c.next.new.self) (sym i.rest ∙ steps.0) in
    let holds = accepted g.P.Pass.accepts xs c.args.answers.now c.requires.answers at x next.got c.if-not-answers-at.false in
    record {
      rest = next.left;
      counted = omega (arith, steps.1, ap length steps.0, i.counted);
      within = omega (arith, next.within);
      stand =
          stand_on c.args.functions (take at rooms) (take (at + 1) rooms) (take at xs) (take (at + 1) xs) c.loop-found.offers.items c.place.new.offers.items c.index.result.now x c.known-offer.result
          (fronts_same rooms xs at c.requires.rooms) i.stand
          (take_more rooms at c.index.result.now (omega (arith, next.within, c.requires.rooms)) ∙ ap (λ n. take at rooms ++ n ∷ []) (sym c.index.ensures))
          next.front c.place.ensures c.known-offer.ensures;
      accepted = All-same (IsAccepted g.P.Pass.accepts) (take (at + 1) xs) (take at xs ++ x ∷ []) next.front (All-push (IsAccepted g.P.Pass.accepts) (take at xs) x i.accepted holds);
    }

pub returns-clause-known : goal.returns-clause-known
returns-clause-known g c =
    let xs = c.args.stored.parts.items in
    let i = c.loop-found.invariant in
    let whole = stand_whole c.args.functions c.args.stored.rooms.items xs c.loop-found.offers.items c.loop-found.at c.requires.rooms
    (omega (arith, c.in-None.ensures.steps.0, i.counted, ap length i.rest, length-drop c.loop-found.at xs)) i.stand in
    record { count = whole.count; each = whole.each }

pub returns-clause-accepted : goal.returns-clause-accepted
returns-clause-accepted g c =
    let xs = c.args.stored.parts.items in
    let i = c.loop-found.invariant in
    let end : length xs ≤ c.loop-found.at = omega (arith, c.in-None.ensures.steps.0, i.counted, ap length i.rest, length-drop c.loop-found.at xs) in
    All-same (IsAccepted g.P.Pass.accepts) xs (take c.loop-found.at xs) (sym (take_all c.loop-found.at xs end)) i.accepted
