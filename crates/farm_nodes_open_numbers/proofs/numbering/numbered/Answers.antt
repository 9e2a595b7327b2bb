-- The next seat gets the claim.
use Rattle.std.proofs.Common.{◌≡◌, ◌++◌, [], ◌∷◌, length, map, refl, sym, ap, ◌∙◌, arith}
use Rattle.std.specs.Vec.Iter.{into_iter_items}
use Rattle.std.proofs.lemmas.List.{map_push}
use Rattle.std.proofs.lemmas.List.Elements.{All-nil, All-push, All-same, All-head, All-tail}
use Rattle.rooms_hall.specs.Claimed.{Claimed}
use Rattle.farm_nodes_turn_passes.specs.FunctionOf.{function_of}
use Rattle.farm_nodes_open_lists.proofs.Columns.{moved_on, all_there, none_left}
use Rattle.farm_nodes_open_numbers.proofs.OneRoom.{claimed_by_all, numbered_there}
use Rattle.farm_nodes_open_numbers.proofs.numbering.numbered.Goals as goal

pub claim_of-claim-requires : goal.claim_of-claim-requires
claim_of-claim-requires g c = numbered_there c.args.drawn c.args.seats.items c.index.result.now c.requires.rooms c.requires.some c.index.ensures

pub loop-seat-init : goal.loop-seat-init
loop-seat-init g c =
    let gives = c.into_iter-seat-iterator.ensures.into_iter_gives in
    let seats = c.args.seats.items in
    let claim = c.claim_of-claim.result in
    record {
      seats = ap (λ ns. map (λ n. n.seat) ns ++ into_iter_items c.into_iter-seat-iterator.result) c.new-found.ensures.items ∙ gives.0;
      counted = omega (arith, gives.1, ap length gives.0, c.args.seats.ok.0);
      same = All-same (λ x. x ≡ claim) (map (λ n. n.claim) c.new-found.result.items) [] (ap (λ ns. map (λ n. n.claim) ns) c.new-found.ensures.items) (All-nil (λ x. x ≡ claim));
      kept = refl;
      here =
          All-same (λ s. function_of s ≡ claim.room) (into_iter_items c.into_iter-seat-iterator.result) seats gives.0
          (claimed_by_all c.args.drawn seats c.index.result.now claim.room c.requires.rooms c.requires.some c.index.ensures (ap (λ (x : Claimed). x.room) c.claim_of-claim.ensures));
    }

pub of-requires : goal.of-requires
of-requires g c =
    let claim = c.claim_of-claim.result in
    let i = c.loop-seat.invariant in
    let left = into_iter_items c.loop-seat.seat-iterator in
    let rest = into_iter_items c.next.new.self in
    ap (λ x. x.room) i.kept
    ∙ sym (All-head (λ s. function_of s ≡ claim.room) c.in-Some.seat rest (All-same (λ s. function_of s ≡ claim.room) (c.in-Some.seat ∷ rest) left (sym c.in-Some.ensures.steps.0) i.here))

pub loop-seat-preserved : goal.loop-seat-preserved
loop-seat-preserved g c =
    let claim = c.claim_of-claim.result in
    let i = c.loop-seat.invariant in
    let steps = c.in-Some.ensures.steps in
    let found = c.loop-seat.found.items in
    let one = c.in-Ok.one in
    let left = into_iter_items c.loop-seat.seat-iterator in
    let rest = into_iter_items c.next.new.self in
    record {
      seats =
          moved_on (map (λ n. n.seat) found) (map (λ n. n.seat) c.push.new.self.items) one.seat left rest c.args.seats.items
          (ap (λ ns. map (λ n. n.seat) ns) c.in-Ok-push.ensures.items ∙ map_push (λ n. n.seat) found one)
          (steps.0 ∙ ap (λ s. s ∷ rest) (sym c.in-Ok.ensures.seat)) i.seats;
      counted = omega (arith, steps.1, ap length steps.0, i.counted);
      same =
          All-same (λ x. x ≡ claim) (map (λ n. n.claim) c.push.new.self.items) (map (λ n. n.claim) found ++ one.claim ∷ [])
          (ap (λ ns. map (λ n. n.claim) ns) c.in-Ok-push.ensures.items ∙ map_push (λ n. n.claim) found one)
          (All-push (λ x. x ≡ claim) (map (λ n. n.claim) found) one.claim i.same (c.in-Ok.ensures.number ∙ i.kept));
      kept = c.of.ensures.kept ∙ i.kept;
      here =
          All-tail (λ s. function_of s ≡ claim.room) c.in-Some.seat rest
          (All-same (λ s. function_of s ≡ claim.room) (c.in-Some.seat ∷ rest) left (sym steps.0) i.here);
    }

pub returns-clause-seats : goal.returns-clause-seats
returns-clause-seats g c =
    let left = into_iter_items c.loop-seat.seat-iterator in
    all_there (map (λ n. n.seat) c.loop-seat.found.items) left c.args.seats.items
    (none_left left (omega (arith, c.in-None.ensures.steps.0, c.loop-seat.invariant.counted))) c.loop-seat.invariant.seats

pub returns-clause-one : goal.returns-clause-one
returns-clause-one g c = record { claim = c.claim_of-claim.result; each = c.loop-seat.invariant.same }
