use Rattle.std.proofs.Common.{◌≡◌, take}
use Rattle.cfarm_emit.specs.Made.{thirds_of}
use Rattle.cfarm_emit.proofs.thirds.thirds.Given as goal

-- the outputs of the first functions' third offers
abbrev pub invariant-loop-number : goal.invariant-loop-number
invariant-loop-number l = l.made.items ≡ thirds_of (take l.number l.functions) (take l.number l.offers)
