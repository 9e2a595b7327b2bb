use Rattle.std.proofs.Common.{◌≡◌, ℕ, ◌≤◌, List, length}
use Rattle.c_program.specs.Meaning.{Continues}
use Rattle.c_meaning_machine.specs.Stacks.{waiting}
use Rattle.c_meaning_machine.specs.Costs.{rest_cost}
use Rattle.c_meaning_machine.specs.Resume.{here, rest_of}
use Rattle.c_meaning.proofs.leaving.continues.Given as goal

-- what continues here continues the whole
abbrev pub invariant-loop-left : goal.invariant-loop-left
invariant-loop-left l = record {
  meaning : (output : List ℕ) → rest_of l.machine (Continues (here l.machine output)) ≡ rest_of l.initial.machine (Continues (here l.initial.machine output));
  cost : rest_cost l.machine ≤ rest_cost l.initial.machine;
}

abbrev pub decreases-loop-left : goal.decreases-loop-left
decreases-loop-left l = length (waiting l.machine.left)
