use Rattle.std.proofs.Common.{◌≡◌, ◌+◌, drop}
use Rattle.machine.specs.Frames.{main_number}
use Rattle.linear_language.specs.Meaning.{takes_none}
use Rattle.linear_faults_search.proofs.starting.find_main.Given as goal

abbrev pub invariant-loop-number : goal.invariant-loop-number
invariant-loop-number l = l.number + main_number takes_none (drop l.number l.functions) ≡ main_number takes_none l.functions
