-- Why `disks_back` meets its contract, and its loop over `node` keeps the invariant.
use Rattle.std.proofs.Common.{[], ◌∷◌, ◌++◌, length, sym, ap, ◌∙◌, append_assoc, append-nil, arith}
use Rattle.std.specs.Vec.Iter.{into_iter_items}
use Rattle.cfarm_build_turns.specs.Resting.{disks_in}
use Rattle.cfarm_build_turns.proofs.NodesRest.{nothing_left}
use Rattle.cfarm_build_turns.proofs.resting.disks_back.Goals as goal

pub loop-node-init : goal.loop-node-init
loop-node-init g c =
    let gives = c.into_iter-node-iterator.ensures.into_iter_gives in let iterator = into_iter_items c.into_iter-node-iterator.result in
    record {
      whole = ap (λ l. l ++ disks_in iterator) c.requires.none ∙ ap (λ l. disks_in l) gives.0;
      counted = omega (arith, gives.1, ap length gives.0, c.args.nodes.ok.0);
      capacity = omega (arith, gives.1, ap length gives.0, c.args.nodes.ok.0, c.requires.capacity, ap length c.requires.none, c.args.spare.ok.0);
    }

pub loop-node-preserved : goal.loop-node-preserved
loop-node-preserved g c =
    let i = c.loop-node.invariant in let steps = c.in-Some.ensures.steps in let left = into_iter_items c.next.new.self in
    record {
      whole = ap (λ l. l ++ disks_in left) (c.put.ensures.items ∙ ap (λ n. c.loop-node.all.items ++ n ∷ []) c.into_disk.ensures)
          ∙ (append_assoc c.loop-node.all.items (c.in-Some.node.log.disk ∷ []) (disks_in left)
          ∙ (ap (λ l. c.loop-node.all.items ++ disks_in l) (sym steps.0) ∙ i.whole));
      counted = omega (arith, steps.1, ap length steps.0, i.counted);
      capacity = omega (arith, steps.1, c.put.ensures.len, c.put.ensures.capacity, i.capacity);
    }

pub returns : goal.returns
returns g c =
    let i = c.loop-node.invariant in
    let none = nothing_left (into_iter_items c.loop-node.node-iterator) (omega (arith, c.in-None.ensures.steps.0, i.counted)) in
    sym (append-nil c.loop-node.all.items) ∙ (ap (λ l. c.loop-node.all.items ++ disks_in l) (sym none) ∙ i.whole)
