use Rattle.std.proofs.Common.{take}
use Rattle.bundle_offers.proofs.Standings.{FoursStand}
use Rattle.cfarm_library_verify.proofs.judging.first_fault.Given as goal

-- the first functions' offers stand
abbrev pub invariant-loop-number : goal.invariant-loop-number
invariant-loop-number l = FoursStand (take l.number l.functions) (take l.number l.fours)
