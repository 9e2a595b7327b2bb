-- Rows that can be written have space for their numbers.
use Rattle.std.proofs.Common.{List, length, get_or}
use Rattle.std.proofs.lemmas.List.Elements.{All-from_recursion}
use Rattle.rtl_passes_marks.specs.Function.{FunctionData}
use Rattle.rtl_passes_marks.specs.declared.row.NodeRow.{NodeRow}
use Rattle.rtl_passes_marks.specs.RowForm.{RowFits}
use Rattle.rtl_passes_marks.specs.Short.{AreShort}
use Rattle.rtl_passes_filled.specs.Rules.{RulesOf}
use Rattle.rtl_passes_facts.specs.Certificates.{CertFits}

pub short_rows : {A : Type 0} (rules : RulesOf A) (input : FunctionData) (rows : List (NodeRow A)) → CertFits rules input rows → AreShort rows
short_rows rules input rows fits = record {
  few = fits.each.few;
  each = λ k d below.
      let row : RowFits (rules.Fits input.registers) (length input.nodes) (get_or rows k d) = All-from_recursion (RowFits (rules.Fits input.registers) (length input.nodes)) rows fits.each.each k d below in
      record { few = row.1.few };
}
