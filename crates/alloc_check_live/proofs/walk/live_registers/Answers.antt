-- Why `live_registers` meets its contract.
use Rattle.std.proofs.Common.{arith}
use Rattle.alloc_check_live.proofs.Walks.{live_all}
use Rattle.alloc_check_live.proofs.walk.live_registers.Goals as goal

pub returns : goal.returns
returns c =
    live_all c.args.input.now c.nodes.ensures.in_range c.args.input.now.registers c.in_ok-found.found.items (omega arith)
    (rw (c.as_slice.ensures, c.nodes.ensures.nodes, c.registers.ensures) at c.in_ok-found.ensures)
