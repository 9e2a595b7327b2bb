use Rattle.std.proofs.Common.{[], map}
use Rattle.lang_base.specs.Reading.{more}
use Rattle.lang_base.proofs.Loops.{IsUnderWay}
use Rattle.cminor_syntax.specs.Views.{expression_tree}
use Rattle.cminor_form.specs.Reading.{expression}
use Rattle.cminor_codec.proofs.plain.read_so_many.Given as goal

abbrev pub invariant-loop : goal.invariant-loop
invariant-loop l = IsUnderWay (λ before. expression l.fuel l.variables) l.count (more (λ before. expression l.fuel l.variables) [] l.count l.fn.bytes.now) (map expression_tree l.expressions.items) l.counter l.bytes.now
