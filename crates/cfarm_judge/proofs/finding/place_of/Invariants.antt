use Rattle.std.proofs.Common.{take}
use Rattle.cfarm_judge.specs.Under.{HasNone}
use Rattle.cfarm_judge.proofs.finding.place_of.Given as goal

-- the first functions have other names
abbrev pub invariant-loop-number : goal.invariant-loop-number
invariant-loop-number g l = HasNone (take l.number l.functions) l.name
