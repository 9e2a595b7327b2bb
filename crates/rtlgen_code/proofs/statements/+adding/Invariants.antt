use Rattle.std.proofs.Common.{◌≡◌, ◌≤◌, length, drop}
use Rattle.std.specs.Prelude.{reverse}
use Rattle.cminor_syntax.specs.Views.{statements_tree}
use Rattle.rtlgen_definition.specs.Gen.{statements}
use Rattle.rtlgen_code.specs.Adding.{Adds}
use Rattle.rtlgen_code.proofs.statements.+adding.Given as goal

abbrev pub invariant-add_statements-loop-index : goal.invariant-add_statements-loop-index
invariant-add_statements-loop-index l = record {
  within : l.index ≤ length l.statements;
  exits : l.exits.items ≡ l.fn.exits.items;
  added : Adds (statements (statements_tree (drop l.index l.statements)) l.temporary (reverse l.fn.exits.items)) l.next l.fn.graph l.graph l.entry;
}

abbrev pub decreases-add_statements-loop-index : goal.decreases-add_statements-loop-index
decreases-add_statements-loop-index l = l.index
