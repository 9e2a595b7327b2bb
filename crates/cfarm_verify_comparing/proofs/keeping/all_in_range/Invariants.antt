use Rattle.std.proofs.Common.{take}
use Rattle.std.specs.Prelude.{All}
use Rattle.bundle_reading.specs.Read.{offers_of}
use Rattle.cfarm_verify_comparing.specs.Ranges.{AreInRange}
use Rattle.cfarm_verify_comparing.proofs.keeping.all_in_range.Given as goal

abbrev pub invariant-loop-four : goal.invariant-loop-four
invariant-loop-four l = All (λ four. AreInRange (offers_of four)) (take l.four-index l.fours)
