use Rattle.std.proofs.Common.{◌≡◌, take}
use Rattle.std.specs.Prelude.{map}
use Rattle.alloc_check.specs.Slots.{block_in}
use Rattle.alloc_check.proofs.function.blocks_in.Given as goal

abbrev pub invariant-loop-instruction : goal.invariant-loop-instruction
invariant-loop-instruction l = l.blocks.items ≡ map block_in (take l.instruction-index l.nodes)
