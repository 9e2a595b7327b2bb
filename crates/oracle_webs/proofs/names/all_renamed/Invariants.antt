use Rattle.std.proofs.Common.{◌≡◌, ℕ, length, All}
use Rattle.rtl_language.specs.Function.{InstructionFits}
use Rattle.oracle_webs.proofs.names.all_renamed.Given as goal

abbrev pub invariant-loop-n : goal.invariant-loop-n
invariant-loop-n l = record {
  count : length l.made.items ≡ l.n;
  fit : (registers count : ℕ) → All (InstructionFits registers count) l.nodes → All (InstructionFits 65536 count) l.made.items;
}
