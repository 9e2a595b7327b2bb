use Rattle.std.proofs.Common.{◌≡◌, length, take}
use Rattle.bundle_reading.specs.Chains.{names_of}
use Rattle.cfarm_verify_comparing.proofs.comparing.same_names.Given as goal

-- as many names, and the first ones are the same
abbrev pub invariant-loop-number : goal.invariant-loop-number
invariant-loop-number g l = (length l.functions ≡ length l.others) × (names_of (take l.number l.others) ≡ names_of (take l.number l.functions))
