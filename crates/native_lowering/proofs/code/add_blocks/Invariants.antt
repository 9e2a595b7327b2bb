use Rattle.std.proofs.Common.{◌≡◌, ◌++◌, drop}
use Rattle.native_lowering_definition.specs.Facts.{no_facts}
use Rattle.native_lowering_definition.specs.Lowering.{joined, blocks}
use Rattle.native_lowering.proofs.code.add_blocks.Given as goal

abbrev pub invariant-loop-instruction : goal.invariant-loop-instruction
invariant-loop-instruction l =
    l.out.items ++ joined (blocks l.around l.facts (drop l.instruction-index l.code)) ≡ l.fn.out.items ++ joined (blocks l.around no_facts l.code)
