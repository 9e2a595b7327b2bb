use Rattle.std.proofs.Common.{◌≡◌, ◌+◌, drop}
use Rattle.lang_running_cells.specs.Frames.{main_number}
use Rattle.lang_running.proofs.starting.find_main.Given as goal

abbrev pub invariant-loop-number : goal.invariant-loop-number
invariant-loop-number g l =
    l.number + main_number g.M.Machine.takes_none (drop l.number l.functions) ≡ main_number g.M.Machine.takes_none l.functions
