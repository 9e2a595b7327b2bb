use Rattle.std.proofs.Common.{◌≡◌, length, take}
use Rattle.cfarm_verify_comparing.proofs.comparing.same_globals.Given as goal

-- as many globals, and the first ones are the same
abbrev pub invariant-loop-number : goal.invariant-loop-number
invariant-loop-number l = (length l.globals ≡ length l.others) × (take l.number l.others ≡ take l.number l.globals)
