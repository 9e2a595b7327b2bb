use Rattle.alloc_check.proofs.Fits.{function_fits}
use Rattle.alloc_check.proofs.function.function_in.Goals as goal

pub new-requires : goal.new-requires
new-requires c =
    rw (c.in_ok-parameters.ensures, c.as_slice-2.ensures, c.parameters.ensures, c.registers.ensures, c.entry.ensures, c.from_vec.ensures, c.in_ok-blocks.ensures, c.as_slice.ensures, c.nodes.ensures.nodes)
    (function_fits c.args.input.now c.nodes.ensures.in_range c.requires)
