use Rattle.std.proofs.Common.{◌≡◌, length, take}
use Rattle.bundle_reading.specs.Offered.{ends_of}
use Rattle.bundle_reading.specs.Read.{offers_in}
use Rattle.cfarm_verify_comparing.proofs.comparing.first_other.Given as goal

-- as many functions, and the first ones are the same
abbrev pub invariant-loop-number : goal.invariant-loop-number
invariant-loop-number l = (length l.functions ≡ length l.begun) × (take l.number l.functions ≡ take l.number (ends_of l.begun (offers_in l.fours)))
