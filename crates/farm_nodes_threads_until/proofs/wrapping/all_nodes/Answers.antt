-- Why `all_nodes` meets its contract, and its loop over `taking` keeps the invariant.
use Rattle.std.proofs.Common.{[], ◌∷◌, ◌++◌, map, length, sym, ap, ◌∙◌, append_assoc, append-nil, arith}
use Rattle.std.specs.Vec.Iter.{into_iter_items}
use Rattle.farm_nodes_threads.proofs.Mapped.{nothing_left}
use Rattle.farm_nodes_threads_until.proofs.wrapping.all_nodes.Goals as goal

pub loop-taking-init : goal.loop-taking-init
loop-taking-init g c =
    let gives = c.into_iter-taking-iterator.ensures.into_iter_gives in let iterator = into_iter_items c.into_iter-taking-iterator.result in
    record {
      whole = ap (λ l. l ++ map (λ t. t.node) iterator) c.requires.none ∙ ap (λ l. map (λ t. t.node) l) gives.0;
      counted = omega (arith, gives.1, ap length gives.0, c.args.all.ok.0);
      capacity = omega (arith, gives.1, ap length gives.0, c.args.all.ok.0, c.requires.capacity, ap length c.requires.none, c.args.spare.ok.0);
    }

pub loop-taking-preserved : goal.loop-taking-preserved
loop-taking-preserved g c =
    let i = c.loop-taking.invariant in let steps = c.in-Some.ensures.steps in let rest = into_iter_items c.next.new.self in
    record {
      whole = ap (λ l. l ++ map (λ t. t.node) rest) c.put.ensures.items
          ∙ (append_assoc c.loop-taking.nodes.items (c.in-Some.taking.node ∷ []) (map (λ t. t.node) rest)
          ∙ (ap (λ l. c.loop-taking.nodes.items ++ map (λ t. t.node) l) (sym steps.0) ∙ i.whole));
      counted = omega (arith, steps.1, ap length steps.0, i.counted);
      capacity = omega (arith, steps.1, c.put.ensures.len, c.put.ensures.capacity, i.capacity);
    }

pub returns : goal.returns
returns g c =
    let i = c.loop-taking.invariant in
    let none = nothing_left (into_iter_items c.loop-taking.taking-iterator) (omega (arith, c.in-None.ensures.steps.0, i.counted)) in
    sym (append-nil c.loop-taking.nodes.items) ∙ (ap (λ l. c.loop-taking.nodes.items ++ map (λ t. t.node) l) (sym none) ∙ i.whole)
