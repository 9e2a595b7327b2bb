use Rattle.std.proofs.Common.{◌+◌, ◌*◌, [], map}
use Rattle.lang_base.specs.Reading.{more}
use Rattle.lang_base.proofs.Loops.{IsUnderWay}
use Rattle.cminor_syntax.specs.Views.{statement_tree}
use Rattle.cminor_form.specs.Reading.{statement}
use Rattle.cminor_codec.proofs.statements.+statements.Given as goal

abbrev pub decreases-read_statement : goal.decreases-read_statement
decreases-read_statement l = 4 * l.fuel

abbrev pub decreases-read_by_code : goal.decreases-read_by_code
decreases-read_by_code l = 4 * l.below + 3

abbrev pub decreases-read_sequence : goal.decreases-read_sequence
decreases-read_sequence l = 4 * l.below + 2

abbrev pub decreases-read_so_many : goal.decreases-read_so_many
decreases-read_so_many l = 4 * l.below + 1

abbrev pub decreases-read_branch : goal.decreases-read_branch
decreases-read_branch l = 4 * l.below + 1

abbrev pub invariant-read_so_many-loop : goal.invariant-read_so_many-loop
invariant-read_so_many-loop l = IsUnderWay (λ before. statement l.below l.variables) l.count (more (λ before. statement l.below l.variables) [] l.count l.fn.bytes.now) (map statement_tree l.statements.items) l.counter l.bytes.now
