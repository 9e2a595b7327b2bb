-- Why `all_taking` meets its clauses, and its loop over `node` keeps the invariant.
use Rattle.std.proofs.Common.{◌≡◌, ◌++◌, map, length, refl, sym, ap, ◌∙◌, subst, append-nil, arith}
use Rattle.std.specs.List.{AllByRecursion}
use Rattle.std.specs.Vec.Iter.{into_iter_items}
use Rattle.farm_nodes_threads.proofs.Mapped.{map_more, nothing_left}
use Rattle.farm_nodes_threads_until.proofs.Lists.{all_more}
use Rattle.farm_nodes_threads_until.proofs.wrapping.all_taking.Goals as goal

pub loop-node-init : goal.loop-node-init
loop-node-init g c =
    let gives = c.into_iter-node-iterator.ensures.into_iter_gives in
    record {
      whole = ap (λ l. map (λ t. t.node) l ++ into_iter_items c.into_iter-node-iterator.result) c.requires.none ∙ gives.0;
      counted = omega (arith, gives.1, ap length gives.0, c.args.nodes.ok.0);
      capacity = omega (arith, gives.1, ap length gives.0, c.args.nodes.ok.0, c.requires.capacity, ap length c.requires.none, c.args.spare.ok.0);
      until = subst (λ l. AllByRecursion (λ t. t.until ≡ c.args.until) l) (sym c.requires.none) tt;
    }

pub loop-node-preserved : goal.loop-node-preserved
loop-node-preserved g c =
    let i = c.loop-node.invariant in let steps = c.in-Some.ensures.steps in let rest = into_iter_items c.next.new.self in
    record {
      whole = ap (λ l. map (λ t. t.node) l ++ rest) c.put.ensures.items
          ∙ (map_more (λ t. t.node) c.loop-node.all.items (record { node = c.in-Some.node; until = c.args.until }) rest
          ∙ (ap (λ l. map (λ t. t.node) c.loop-node.all.items ++ l) (sym steps.0) ∙ i.whole));
      counted = omega (arith, steps.1, ap length steps.0, i.counted);
      capacity = omega (arith, steps.1, c.put.ensures.len, c.put.ensures.capacity, i.capacity);
      until = subst (λ l. AllByRecursion (λ t. t.until ≡ c.args.until) l) (sym c.put.ensures.items)
          (all_more (λ t. t.until ≡ c.args.until) c.loop-node.all.items (record { node = c.in-Some.node; until = c.args.until }) i.until refl);
    }

pub returns-clause-nodes : goal.returns-clause-nodes
returns-clause-nodes g c =
    let i = c.loop-node.invariant in
    let none = nothing_left (into_iter_items c.loop-node.node-iterator) (omega (arith, c.in-None.ensures.steps.0, i.counted)) in
    sym (append-nil (map (λ t. t.node) c.loop-node.all.items)) ∙ (ap (λ l. map (λ t. t.node) c.loop-node.all.items ++ l) (sym none) ∙ i.whole)

pub returns-clause-until : goal.returns-clause-until
returns-clause-until g c = c.loop-node.invariant.until
