use Rattle.std.proofs.Common.{◌≡◌, ◌≤◌, length, drop}
use Rattle.cminor_syntax.specs.Views.{statements_tree}
use Rattle.rtlgen_definition.specs.Gen.{statements_need}
use Rattle.rtlgen_code.proofs.statement_temporaries.+counting.Given as goal

abbrev pub invariant-statements_need-loop-index : goal.invariant-statements_need-loop-index
invariant-statements_need-loop-index l = record {
  within : l.index ≤ length l.statements;
  most : l.most ≡ statements_need (statements_tree (drop l.index l.statements));
}

abbrev pub decreases-statements_need-loop-index : goal.decreases-statements_need-loop-index
decreases-statements_need-loop-index l = l.index
