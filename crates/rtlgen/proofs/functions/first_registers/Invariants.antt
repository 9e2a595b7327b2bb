use Rattle.std.proofs.Common.{◌≡◌}
use Rattle.rtlgen_definition.specs.Gen.{numbers_from}
use Rattle.rtlgen.proofs.functions.first_registers.Given as goal

abbrev pub invariant-loop-number : goal.invariant-loop-number
invariant-loop-number l = l.registers.items ≡ numbers_from 0 l.number
