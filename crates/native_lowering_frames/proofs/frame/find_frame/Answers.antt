-- Why a byte holds the cells for arguments, and the frame is as small as its invariant asks.
use Rattle.std.proofs.Common.{[], ◌∷◌, ap, ◌∙◌, arith}
use Rattle.native_lowering_definition.specs.Frames.{outs_of, writes}
use Rattle.native_lowering_frames.proofs.Outs.{low}
use Rattle.native_lowering_frames.proofs.Saved.{few}
use Rattle.native_lowering_frames.proofs.frame.find_frame.Goals as goal

pub overflow_cast-result : goal.overflow_cast-result
overflow_cast-result c =
    let f = c.args.function.now in
    omega (arith, c.find_outs-outs.ensures ∙ ap outs_of (c.as_slice.ensures ∙ c.code.ensures.code), low f.slots f.code c.code.ensures.in_range.each)

pub invariant_of-result : goal.invariant_of-result
invariant_of-result c =
    (omega (arith, c.slots.ensures, c.code.ensures.in_range.slots), rw c.in_ok-saved.ensures (few (writes c.args.function.now) (4 ∷ 5 ∷ 6 ∷ 7 ∷ [])))
