use Rattle.std.proofs.Common.{◌-◌}
use Rattle.alloc_check_lists.proofs.Searches.{IsBetween}
use Rattle.alloc_check_lists.proofs.among.first_from.Given as goal

abbrev pub invariant-loop-low : goal.invariant-loop-low
invariant-loop-low l = IsBetween l.equations l.least l.low l.high

abbrev pub decreases-loop-low : goal.decreases-loop-low
decreases-loop-low l = l.high - l.low
