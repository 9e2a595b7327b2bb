use Rattle.std.proofs.Common.{◌≡◌, ◌+◌, drop}
use Rattle.lang_running_cells.specs.Frames.{main_number}
use Rattle.x86.specs.Meaning.{takes_none}
use Rattle.x86.proofs.whole.find_main.Given as goal

abbrev pub invariant-loop-number : goal.invariant-loop-number
invariant-loop-number l = l.number + main_number takes_none (drop l.number l.functions) ≡ main_number takes_none l.functions
