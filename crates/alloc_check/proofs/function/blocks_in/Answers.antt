-- Why the loop of `blocks_in` over `instruction` keeps the invariant.
use Rattle.std.proofs.Common.{[], ◌∷◌, ◌++◌, ap, ◌∙◌}
use Rattle.std.specs.Prelude.{map, take}
use Rattle.alloc_check.specs.Slots.{block_in}
use Rattle.alloc_check.proofs.Mapped.{map_more}
use Rattle.alloc_check.proofs.function.blocks_in.Goals as goal

pub loop-instruction-preserved : goal.loop-instruction-preserved
loop-instruction-preserved c =
    let nodes = c.args.nodes.now in
    let n = c.loop-instruction.instruction-index in
    let i = c.instruction-item.result in
    rw (c.in_ok-push.ensures.items, c.loop-instruction.invariant, c.in_ok-block.ensures)
    (ap (λ x. map block_in (take n nodes) ++ block_in x ∷ []) c.instruction-item.is ∙ map_more block_in nodes n i c.loop-instruction-test.true)
