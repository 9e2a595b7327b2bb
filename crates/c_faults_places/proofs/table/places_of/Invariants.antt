use Rattle.std.proofs.Common.{◌≡◌, ◌++◌}
use Rattle.c_faults_places.proofs.Tables.{table_from}
use Rattle.c_faults_places.proofs.table.places_of.Given as goal

-- the places so far, and those of the functions that are left
abbrev pub invariant-loop-declaration : goal.invariant-loop-declaration
invariant-loop-declaration l =
    l.table.items ++ table_from l.declaration-index l.declarations l.left l.rest ≡ table_from 0 l.declarations l.functions l.tokens
