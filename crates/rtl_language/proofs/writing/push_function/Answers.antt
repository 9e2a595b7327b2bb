-- Why `push_function` may call `push_frame` and `push_each`.
use Rattle.std.proofs.Common.{ap, ◌∙◌, arith, length}
use Rattle.rtl_language.proofs.Short.{all_short}
use Rattle.rtl_language.proofs.writing.push_function.Goals as goal

pub push_frame-requires : goal.push_frame-requires
push_frame-requires c = rw (c.as_slice.ensures, c.parameters.ensures) c.nodes.ensures.in_range.parameters.few

pub overflow_cast-nodes : goal.overflow_cast-nodes
overflow_cast-nodes c =
    let few = c.nodes.ensures.in_range.nodes in
    let same = ap length (c.as_slice-nodes.ensures ∙ c.nodes.ensures.nodes) in
    omega (arith, few, same)

pub push_each-requires : goal.push_each-requires
push_each-requires c =
    let f = c.nodes.ensures.in_range in
    rw (c.as_slice-nodes.ensures, c.nodes.ensures.nodes) (all_short _ _ _ f.each)
