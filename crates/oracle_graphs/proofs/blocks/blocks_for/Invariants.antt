use Rattle.std.proofs.Common.{◌≡◌, ℕ, length, All}
use Rattle.ltl.specs.Function.{BlockFits}
use Rattle.rtl_language.specs.Function.{InstructionFits}
use Rattle.oracle_graphs.proofs.blocks.blocks_for.Given as goal

abbrev pub invariant-loop-n : goal.invariant-loop-n
invariant-loop-n l = record {
  count : length l.made.items ≡ l.n;
  fit : (registers count : ℕ) → All (InstructionFits registers count) l.nodes → All (BlockFits l.assignment.slots count) l.made.items;
}
