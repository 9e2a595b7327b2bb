-- Targets whose number has space in a field of a statement of Cminor.
use Rattle.std.specs.Prelude.{◌<◌}
use Rattle.c_program.specs.declared.action.Target.{Target}
use Rattle.c_program.specs.declared.action.Target.TheVariants.{Nowhere, Local, Global, Caller}

abbrev pub HasRoom : Target → Type 0
HasRoom Nowhere = Unit {0}
HasRoom (Local n) = n < 65536
HasRoom (Global g) = g < 65536
HasRoom Caller = Unit {0}
