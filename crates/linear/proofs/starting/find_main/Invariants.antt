use Rattle.std.proofs.Common.{◌≡◌, ◌+◌, drop}
use Rattle.linear.specs.Runs.{main_of}
use Rattle.linear.proofs.starting.find_main.Given as goal

abbrev pub invariant-loop-number : goal.invariant-loop-number
invariant-loop-number l = l.number + main_of (drop l.number l.functions) ≡ main_of l.functions
