use Rattle.std.proofs.Common.{drop}
use Rattle.native_lowering_blocks.specs.Noted.{AreNoted, is_named}
use Rattle.native_lowering_blocks.proofs.labels.find_named.Given as goal

abbrev pub invariant-loop-instruction : goal.invariant-loop-instruction
invariant-loop-instruction l = AreNoted is_named (drop l.instruction-index l.code) l.code l.flags.items
