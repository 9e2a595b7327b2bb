use Rattle.std.proofs.Common.{◌≡◌, take}
use Rattle.std.specs.Prelude.{map}
use Rattle.alloc_check.specs.Slots.{own}
use Rattle.alloc_check.proofs.lists.own_each.Given as goal

abbrev pub invariant-loop-register : goal.invariant-loop-register
invariant-loop-register l = l.equations.items ≡ map own (take l.register-index l.registers)
