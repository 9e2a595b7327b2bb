use Rattle.std.proofs.Common.{◌≡◌, ℕ, List, []}
use Rattle.std.specs.Io.KnownBytes.{Appends}
use Rattle.c_program.specs.Meaning.{Falls, shown}
use Rattle.c_meaning_machine.specs.Resume.{here, later}
use Rattle.c_meaning_machine.specs.Steps.{shows, next_cost}
use Rattle.c_meaning.proofs.running.run.Given as goal

-- what is printed so far, with which the run shows what the whole shows
abbrev pub invariant-loop-next : goal.invariant-loop-next
invariant-loop-next g l = (printed : List ℕ) × (Appends (g.W.Write.contents l.fn.out) (g.W.Write.contents l.out) printed × (shows l.next l.machine printed ≡ shown (later l.fn.machine (Falls (here l.fn.machine [])))))

abbrev pub decreases-loop-next : goal.decreases-loop-next
decreases-loop-next g l = next_cost l.next l.machine
