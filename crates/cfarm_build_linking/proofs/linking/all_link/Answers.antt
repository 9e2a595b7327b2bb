-- One node more that links all functions.
use Rattle.std.proofs.Common.{sym, subst, take, ◌+◌, ◌∙◌}
use Rattle.std.proofs.lemmas.List.Elements.{All-from_recursion, All-more, recursion_from_All}
use Rattle.cfarm_build_result.specs.Learned.{learned_by, IsUndecided}
use Rattle.cfarm_build_result.proofs.Wanting.{seen_at}
use Rattle.cfarm_build_result.specs.Node.{node}
use Rattle.cfarm_build_linking.proofs.linking.all_link.Goals as goal

pub returns-then-is_undecided-clause-no : goal.returns-then-is_undecided-clause-no
returns-then-is_undecided-clause-no g c = λ no.
    let x = c.index-nodes-number.result in
    record {
      number = c.loop-number.number;
      node = node x.log x.seats.items x.halted;
      there = seen_at (λ n. node n.log n.seats.items n.halted) c.args.nodes.now c.loop-number.number x c.loop-number-test.true c.index-nodes-number.is;
      undecided = subst (λ n. IsUndecided (learned_by n.seats.items)) (sym c.index-nodes-number.is)
          (subst (λ l. IsUndecided (learned_by l)) c.deref.ensures.value (c.is_undecided.ensures.0 c.if-is_undecided.true));
    }

pub loop-number-preserved : goal.loop-number-preserved
loop-number-preserved g c =
    let done = c.loop-number in
    let xs = c.args.nodes.now in
    let x = c.index-nodes-number.result in
    let never = subst (λ l. IsUndecided (learned_by l) → ⊥) c.deref.ensures.value
    (λ undecided. absurd (cc (sym c.if-is_undecided.false ∙ c.is_undecided.ensures.1 undecided))) in
    recursion_from_All (λ n. IsUndecided (learned_by n.seats.items) → ⊥) (take (done.number + 1) xs)
    (All-more (λ n. IsUndecided (learned_by n.seats.items) → ⊥) xs done.number x c.loop-number-test.true
    (All-from_recursion (λ n. IsUndecided (learned_by n.seats.items) → ⊥) (take done.number xs) done.invariant)
    never)
