-- Why `reachable` meets its clause `reached`, its loop over `node` keeps the invariant, and it may call `visit`.
use Rattle.std.proofs.Common.{◌≡◌, length, ap, subst, ◌∙◌, arith, Some, true, ◌++◌}
use Rattle.std.specs.Prelude.{slice_get}
use Rattle.std.proofs.lemmas.List.{length-replicate, nil_from_length}
use Rattle.linearize_check_proof.specs.Layout.{successors_of}
use Rattle.linearize_check_layout.proofs.Searches.{Searching, popped_within, searching_after, left_over-falls, searching_first, searching_done, replicate_unmarked}
use Rattle.linearize_check_layout.proofs.reach.reachable.Goals as goal

pub loop-node-init : goal.loop-node-init
loop-node-init c =
    let blocks = c.as_slice-blocks.ensures ∙ c.blocks-2.ensures.blocks in
    let fresh = c.in_ok-marks.ensures.items_if_clones_equal (λ y same. same) in
    let len = ap length fresh ∙ length-replicate _ _ ∙ ap length blocks in
    rw (c.in_ok-push.ensures.items, c.new-pending.ensures.items, c.entry.ensures)
    (searching_first _ c.blocks-2.ensures.in_range c.in_ok-marks.marks.items len
    (λ n marked. replicate_unmarked _ n (subst (λ l. slice_get l n ≡ Some true) fresh marked)))

pub visit-requires-clause-node : goal.visit-requires-clause-node
visit-requires-clause-node c =
    let blocks = c.as_slice-blocks.ensures ∙ c.blocks-2.ensures.blocks in
    let before = subst (λ p. Searching c.args.function.now c.loop-node.marks.items p) c.in-Some.ensures.items c.loop-node.invariant in
    rw blocks (popped_within c.args.function.now c.blocks-2.ensures.in_range c.loop-node.marks.items c.pop.new.self.items c.in-Some.node before)

pub loop-node-smaller : goal.loop-node-smaller
loop-node-smaller c =
    let blocks = c.as_slice-blocks.ensures ∙ c.blocks-2.ensures.blocks in
    let before = subst (λ p. Searching c.args.function.now c.loop-node.marks.items p) c.in-Some.ensures.items c.loop-node.invariant in
    rw c.in-Some.ensures.items
    (left_over-falls c.args.function.now c.blocks-2.ensures.in_range c.loop-node.marks.items c.pop.new.self.items c.in-Some.node before c.visit.new.marks.items c.visit.new.pending.items c.in_ok-visit.ensures.seen
    (λ e. let s = c.in_ok-visit.ensures.first e in (s.0, s.1 ∙ ap (λ bs. c.pop.new.self.items ++ successors_of (slice_get bs c.in-Some.node)) blocks)))

pub loop-node-preserved : goal.loop-node-preserved
loop-node-preserved c =
    let blocks = c.as_slice-blocks.ensures ∙ c.blocks-2.ensures.blocks in
    let before = subst (λ p. Searching c.args.function.now c.loop-node.marks.items p) c.in-Some.ensures.items c.loop-node.invariant in
    searching_after c.args.function.now c.blocks-2.ensures.in_range c.loop-node.marks.items c.pop.new.self.items c.in-Some.node before c.visit.new.marks.items c.visit.new.pending.items c.in_ok-visit.ensures.seen
    (λ e. let s = c.in_ok-visit.ensures.first e in (s.0, s.1 ∙ ap (λ bs. c.pop.new.self.items ++ successors_of (slice_get bs c.in-Some.node)) blocks))

pub returns-clause-reached : goal.returns-clause-reached
returns-clause-reached c =
    let none : length c.loop-node.pending.items ≡ 0 = omega (arith, c.loop-node.pending.ok.0, c.in_default.ensures.cases.0) in
    searching_done c.args.function.now c.loop-node.marks.items (subst (Searching c.args.function.now c.loop-node.marks.items) (nil_from_length c.loop-node.pending.items none) c.loop-node.invariant)
