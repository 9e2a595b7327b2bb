use Rattle.std.proofs.Common.{◌+◌, ◌*◌, map, length, true}
use Rattle.c_syntax.specs.Views.{statement_tree}
use Rattle.c_reader_productions.specs.Combining.{each}
use Rattle.c_reader_statement_laws.specs.Reading.{goes_on, statement_at}
use Rattle.c_reader_statement_laws.proofs.Loops.{IsUnderWay}
use Rattle.c_reader_statements.proofs.reading.+statements.Given as goal

abbrev pub decreases-read_statement : goal.decreases-read_statement
decreases-read_statement l = 5 * l.fuel

abbrev pub decreases-read_behind : goal.decreases-read_behind
decreases-read_behind l = 5 * l.fuel + 4

abbrev pub decreases-read_items : goal.decreases-read_items
decreases-read_items l = 5 * l.fuel + 1

abbrev pub decreases-read_inside : goal.decreases-read_inside
decreases-read_inside l = 5 * l.fuel + 1

abbrev pub decreases-read_other : goal.decreases-read_other
decreases-read_other l = 5 * l.fuel + 2

abbrev pub decreases-read_do : goal.decreases-read_do
decreases-read_do l = 5 * l.fuel + 2

abbrev pub decreases-read_branches : goal.decreases-read_branches
decreases-read_branches l = 5 * l.fuel + 3

abbrev pub invariant-read_items-loop : goal.invariant-read_items-loop
invariant-read_items-loop l = IsUnderWay goes_on (statement_at l.fuel true) (length l.tokens) (each goes_on (statement_at l.fuel true) l.tokens) (map statement_tree l.statements.items) l.counter l.rest
