use Rattle.std.proofs.Common.{◌≡◌, []}
use Rattle.lang_base.specs.Reading.{more}
use Rattle.lang_base.proofs.Loops.{IsUnderWay}
use Rattle.lang_helpers.proofs.many.read_so_many.Given as goal

abbrev pub invariant-loop : goal.invariant-loop
invariant-loop g l = record {
  under_way : IsUnderWay (g.R.ReadOne.part l.fn.reader) l.count (more (g.R.ReadOne.part l.fn.reader) [] l.count l.fn.bytes.now) l.all.items l.counter l.bytes.now;
  same : g.R.ReadOne.part l.reader ≡ g.R.ReadOne.part l.fn.reader;
  keeps : g.R.ReadOne.keeps l.reader l.all.items;
}
