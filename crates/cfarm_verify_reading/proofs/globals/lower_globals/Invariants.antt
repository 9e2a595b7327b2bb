use Rattle.std.proofs.Common.{◌≡◌, take, map}
use Rattle.cminor_lowering.specs.Programs.{low_global}
use Rattle.cfarm_verify_reading.proofs.globals.lower_globals.Given as goal

abbrev pub invariant-loop-global : goal.invariant-loop-global
invariant-loop-global l = l.lowered.items ≡ map low_global (take l.global-index l.globals)
