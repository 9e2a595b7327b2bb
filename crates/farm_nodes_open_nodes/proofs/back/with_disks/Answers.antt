-- The next disk goes behind those in front of it.
use Rattle.std.proofs.Common.{◌∷◌, ◌++◌, [], length, map, ap, ◌∙◌, arith}
use Rattle.std.specs.Vec.Iter.{into_iter_items}
use Rattle.std.proofs.lemmas.List.{length_push}
use Rattle.farm_nodes_open_seats.proofs.Lists.{all_there, empty, moved_on}
use Rattle.farm_nodes_open_nodes.proofs.back.with_disks.Goals as goal

pub loop-journal-init : goal.loop-journal-init
loop-journal-init g c =
    let gives = c.into_iter-journal-iterator.ensures.into_iter_gives in
    record {
      whole = ap (λ js. c.args.back.items ++ map (λ j. j.0.disk) js) gives.0;
      counted = omega (arith, gives.1, ap length gives.0, c.args.journals.ok.0);
      fits = omega (arith, c.requires, ap length gives.0);
      capacity = omega arith;
    }

pub loop-journal-preserved : goal.loop-journal-preserved
loop-journal-preserved g c =
    let i = c.loop-journal.invariant in
    let steps = c.in-Some.ensures.steps in
    let rest = into_iter_items c.next.new.self in
    let left = into_iter_items c.loop-journal.journal-iterator in
    let j = c.in-Some.journal in
    record {
      whole = moved_on c.loop-journal.back.items c.push.new.self.items j.0.disk (map (λ j. j.0.disk) left) (map (λ j. j.0.disk) rest) (c.args.back.items ++ map (λ j. j.0.disk) c.args.journals.items)
          (c.in-Ok.ensures.items ∙ ap (λ d. c.loop-journal.back.items ++ d ∷ []) c.into_disk.ensures) (ap (map (λ j. j.0.disk)) steps.0) i.whole;
      counted = omega (arith, steps.1, ap length steps.0, i.counted);
      fits = omega (arith, ap length steps.0, i.fits, ap length c.in-Ok.ensures.items, length_push c.loop-journal.back.items c.into_disk.result, c.in-Ok.ensures.capacity);
      capacity = omega (arith, i.capacity, c.in-Ok.ensures.capacity);
    }

pub returns-clause-disks : goal.returns-clause-disks
returns-clause-disks g c =
    let left = into_iter_items c.loop-journal.journal-iterator in
    all_there c.loop-journal.back.items (map (λ j. j.0.disk) left) (c.args.back.items ++ map (λ j. j.0.disk) c.args.journals.items)
    (ap (map (λ j. j.0.disk)) (empty left (omega (arith, c.in-None.ensures.steps.0, c.loop-journal.invariant.counted)))) c.loop-journal.invariant.whole
