use Rattle.std.proofs.Common.{◌≡◌}
use Rattle.c_program.specs.Meaning.{filled}
use Rattle.c_faults_search.proofs.starting.first_cells.Given as goal

-- so many cells are there
abbrev pub invariant-loop-place : goal.invariant-loop-place
invariant-loop-place l = l.words.items ≡ filled l.place l.first
