use Rattle.alloc_check_live.specs.Lists.{AreLiveBelow}
use Rattle.alloc_check_live.proofs.walk.live_below.Given as goal

abbrev pub invariant-loop-register : goal.invariant-loop-register
invariant-loop-register l = AreLiveBelow l.nodes l.register l.found.items
