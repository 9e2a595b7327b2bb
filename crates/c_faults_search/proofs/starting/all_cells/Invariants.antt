use Rattle.std.proofs.Common.{◌≡◌, map, take}
use Rattle.c_program.specs.Meaning.{cells_of}
use Rattle.c_faults_search.proofs.starting.all_cells.Given as goal

-- so many globals are there
abbrev pub invariant-loop-global : goal.invariant-loop-global
invariant-loop-global l = l.all.items ≡ map cells_of (take l.global-index l.globals)
