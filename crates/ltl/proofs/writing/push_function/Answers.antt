-- Why `push_function` may call `push_frame` and `push_each`.
use Rattle.std.proofs.Common.{ap, ◌∙◌, arith, length}
use Rattle.ltl.proofs.Short.{all_short}
use Rattle.ltl.proofs.writing.push_function.Goals as goal

pub push_frame-requires : goal.push_frame-requires
push_frame-requires c = rw (c.as_slice.ensures, c.parameters.ensures) c.blocks-2.ensures.in_range.parameters.few

pub overflow_cast-blocks : goal.overflow_cast-blocks
overflow_cast-blocks c =
    let few = c.blocks-2.ensures.in_range.nodes in
    let same = ap length (c.as_slice-blocks.ensures ∙ c.blocks-2.ensures.blocks) in
    omega (arith, few, same)

pub push_each-requires : goal.push_each-requires
push_each-requires c =
    let f = c.blocks-2.ensures.in_range in
    rw (c.as_slice-blocks.ensures, c.blocks-2.ensures.blocks) (all_short _ _ _ f.each)
