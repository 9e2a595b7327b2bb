use Rattle.std.proofs.Common.{◌≡◌, take}
use Rattle.locations.specs.declared.location.Location.{Location}
use Rattle.alloc_check_rules.specs.Equations.{back}
use Rattle.alloc_check_blocks.specs.Origins.{origin}
use Rattle.alloc_check_blocks.proofs.origins.sources_of.Given as goal

abbrev pub invariant-loop-step : goal.invariant-loop-step
invariant-loop-step l = (q : Location) → origin l.sources q ≡ back (take l.step-index l.moves) q
