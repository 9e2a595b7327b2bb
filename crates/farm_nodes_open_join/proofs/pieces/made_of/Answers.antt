-- The next goes behind what is made.
use Rattle.std.proofs.Common.{◌≡◌, ◌∷◌, ◌+◌, length, sym, ap, arith}
use Rattle.std.specs.Vec.Iter.{into_iter_items}
use Rattle.std.proofs.lemmas.List.Elements.{All-head, All-rest, All-same}
use Rattle.farm_nodes_open_join.proofs.Moving.{made_all, made_first, made_next, one_more}
use Rattle.farm_nodes_open_join.proofs.pieces.made_of.Goals as goal

pub loop-value-init : goal.loop-value-init
loop-value-init g c =
    let gives = c.into_iter-value-iterator.ensures.into_iter_gives in
    let left = into_iter_items c.into_iter-value-iterator.result in
    record {
      callable = All-same (λ v. goal.F-pre g c.args.make v) left c.args.values.items gives.0 c.requires.callable;
      made = λ more are. made_first (λ v m. goal.F-post g c.args.make v m) left c.args.values.items c.args.spare.items more gives.0 c.requires.none are;
      counted = omega (arith, gives.1, ap length gives.0, c.args.values.ok.0);
      capacity = omega (arith, ap length gives.0, c.args.values.ok.0, c.requires.capacity, ap length c.requires.none);
    }

pub make-requires : goal.make-requires
make-requires g c =
    let i = c.loop-value.invariant in
    let rest = into_iter_items c.next.new.self in
    All-head (λ v. goal.F-pre g c.args.make v) c.in-Some.value rest (All-same (λ v. goal.F-pre g c.args.make v) (c.in-Some.value ∷ rest) (into_iter_items c.loop-value.value-iterator) (sym c.in-Some.ensures.steps.0) i.callable)

pub loop-value-preserved : goal.loop-value-preserved
loop-value-preserved g c =
    let i = c.loop-value.invariant in
    let steps = c.in-Some.ensures.steps in
    let left = into_iter_items c.loop-value.value-iterator in
    let rest = into_iter_items c.next.new.self in
    let put = c.put.ensures in
    let long : length c.put.new.all.items ≡ length c.loop-value.made.items + 1 = one_more c.loop-value.made.items c.put.new.all.items c.make.result put.items in
    record {
      callable = All-rest (λ v. goal.F-pre g c.args.make v) c.in-Some.value rest left steps.0 i.callable;
      made = λ more are. made_next (λ v m. goal.F-post g c.args.make v m) left rest c.args.values.items c.loop-value.made.items c.put.new.all.items more c.in-Some.value c.make.result i.made steps.0 c.make.ensures put.items are;
      counted = omega (arith, steps.1, ap length steps.0, i.counted);
      capacity = omega (arith, ap length steps.0, long, put.capacity, i.capacity);
    }

pub returns : goal.returns
returns g c =
    let left = into_iter_items c.loop-value.value-iterator in
    let none : length left ≡ 0 = omega (arith, c.in-None.ensures.steps.0, c.loop-value.invariant.counted) in
    made_all (λ v m. goal.F-post g c.args.make v m) left c.args.values.items c.loop-value.made.items c.loop-value.invariant.made none
