use Rattle.std.proofs.Common.{◌≡◌, take}
use Rattle.std.specs.Prelude.{map}
use Rattle.alloc_check.specs.Slots.{slot}
use Rattle.alloc_check.proofs.nodes.slots_of.Given as goal

abbrev pub invariant-loop-register : goal.invariant-loop-register
invariant-loop-register l = l.locations.items ≡ map slot (take l.register-index l.registers)
