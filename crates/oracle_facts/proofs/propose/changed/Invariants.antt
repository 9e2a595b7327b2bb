use Rattle.std.proofs.Common.{◌≡◌, length, All}
use Rattle.rtl_language.specs.Function.{InstructionFits}
use Rattle.oracle_facts.proofs.propose.changed.Given as goal

abbrev pub invariant-loop-n : goal.invariant-loop-n
invariant-loop-n g l = record {
  count : length l.made.items ≡ l.n;
  fit : All (InstructionFits l.input.registers (length l.input.nodes)) l.made.items;
}
