-- What a pass by facts owes as one of the pipeline, from the form of its facts.
use Rattle.std.proofs.Common.{◌≡◌, ℕ, ◌<◌, List, ◌++◌, ◌≤◌, ◌^◌, length, arith}
use Rattle.std.specs.Prelude.{All}
use Rattle.std.proofs.lemmas.List.Elements.{recursion_from_All}
use Rattle.lang_base.specs.Reading.{Reading}
use Rattle.lang_base.proofs.Forms.{IsForm, one_text}
use Rattle.rtl_passes_marks.specs.Function.{FunctionData, IsFunction}
use Rattle.rtl_passes_marks.specs.ListForm.{ListFits}
use Rattle.rtl_passes_marks.specs.declared.row.NodeRow.{NodeRow}
use Rattle.rtl_passes_marks.specs.Rows.{IsRow, AreRows, place_of}
use Rattle.rtl_passes_marks.specs.RowForm.{RowFits, rows_text, rows_form}
use Rattle.rtl_passes_marks.proofs.Short.{few_between}
use Rattle.rtl_passes_filled.specs.Rules.{RulesOf, IsInOrder}
use Rattle.rtl_passes_filled.specs.Accepted.{IsAccepted}
use Rattle.rtl_passes_facts.specs.Certificates.{CertFits}

list_fits : {A : Type 0} (rules : RulesOf A) (registers : ℕ) (facts : List A) → IsInOrder rules registers facts → ListFits (rules.Fits registers) facts
list_fits rules registers facts in_order = record { few = in_order.few; each = recursion_from_All (rules.Fits registers) facts in_order.each }

row_fits : {A : Type 0} (rules : RulesOf A) (i : FunctionData) (row : NodeRow A) → IsRow (IsInOrder rules i.registers) i.entry i.nodes row → RowFits (rules.Fits i.registers) (length i.nodes) row
row_fits rules i row is = (is.within, list_fits rules i.registers row.entries is.in_order)

-- facts that are accepted can be written
pub accepted_fits : {A : Type 0} (rules : RulesOf A) (i o : FunctionData) (c : List (NodeRow A)) → IsFunction i → IsAccepted rules i o c → CertFits rules i c
accepted_fits rules i o c fits accepted =
    let rows : AreRows (IsInOrder rules i.registers) i.entry i.nodes c = accepted.shape.form in
    let within : All (λ row. place_of row < length i.nodes) c = λ k d below. (rows.each k d below).within in
    record {
      few = omega (arith, fits.registers);
      nodes = omega (arith, fits.nodes);
      each = record {
        few = omega (arith, few_between place_of 0 (length i.nodes) c rows.rising within (omega arith), fits.nodes);
        each = recursion_from_All (RowFits (rules.Fits i.registers) (length i.nodes)) c (λ k d below. row_fits rules i _ (rows.each k d below));
      };
    }

-- one certificate a spelling
pub one_certificate : {A : Type 0} (rules : RulesOf A) (part : ℕ → Reading A) (text : A → List ℕ) → ((registers : ℕ) → registers ≤ 2 ^ 16 → IsForm (part registers) text (rules.Fits registers))
    → (i : FunctionData) (c d : List (NodeRow A)) (x y : List ℕ) → CertFits rules i c → CertFits rules i d → rows_text text c ++ x ≡ rows_text text d ++ y → (c ≡ d) × (x ≡ y)
one_certificate rules part text form i c d x y fits also e = one_text (rows_form (form i.registers fits.few) (length i.nodes) fits.nodes) c d x y fits.each also.each e
