use Rattle.std.proofs.Common.{take}
use Rattle.bundle_reading.specs.Read.{AreRead}
use Rattle.cfarm_library_verify.proofs.reading.read_fours.Given as goal

-- the parts of the first functions
abbrev pub invariant-loop-number : goal.invariant-loop-number
invariant-loop-number l = AreRead (take l.number l.functions) l.fours.items
