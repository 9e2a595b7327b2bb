-- Why the loop of `lower` keeps its invariant.
use Rattle.std.proofs.Common.{[], ◌∷◌, ◌++◌, take, map, ap, ◌∙◌}
use Rattle.native_lowering.specs.Named.{named_of}
use Rattle.native_lowering.proofs.Rests.{map_more}
use Rattle.native_lowering.proofs.program.lower.Goals as goal

pub loop-named-preserved : goal.loop-named-preserved
loop-named-preserved c =
    let p = c.args.program.now in
    let fs = c.as_slice-all.result.now in
    let n = c.loop-named.named-index in
    let f = c.named-item.result in
    rw (c.in_ok-push.ensures.items, c.loop-named.invariant, c.in_ok-lower_named.ensures)
    (ap (λ x. map (named_of p) (take n fs) ++ named_of p x ∷ []) c.named-item.is ∙ map_more (named_of p) fs n f c.loop-named-test.true)
