-- The bytes of rows: their number, and of each the node, the number of its entries and these.
use Rattle.std.proofs.Common.{◌≡◌, ℕ, ◌<◌, ◌≤◌, ◌^◌, List, [], ◌++◌, length, refl, arith}
use Rattle.std.specs.Int.{w16, to_be_bytes}
use Rattle.std.specs.List.{AllByRecursion}
use Rattle.lang_base.specs.Reading.{Reading, number, below, both, made, counted}
use Rattle.lang_base.specs.Texts.{counted_text}
use Rattle.lang_base.proofs.Forms.{IsForm}
use Rattle.lang_base.proofs.Parts.{number16_form, below_form, both_form, made_form, fits_form}
use Rattle.lang_base.proofs.Lists.{counted_form, each_fits, fits_each}
use Rattle.rtl_passes.specs.ListForm.{ListFits, list, list_text, list_form}
use Rattle.rtl_passes_marks.specs.declared.row.NodeRow.{NodeRow}

abbrev pub row_text : {A : Type 0} → (A → List ℕ) → NodeRow A → List ℕ
row_text text row = to_be_bytes w16 row.node ++ list_text text row.entries

abbrev pub rows_text : {A : Type 0} → (A → List ℕ) → List (NodeRow A) → List ℕ
rows_text text rows = counted_text (to_be_bytes w16) (row_text text) rows

-- a row among so many nodes that can be written
abbrev pub RowFits : {A : Type 0} → (A → Type 0) → ℕ → NodeRow A → Type 0
RowFits Fits nodes row = (row.node < nodes) × ListFits Fits row.entries

pub record RowsFit {A : Type 0} (Fits : A → Type 0) (nodes : ℕ) (rows : List (NodeRow A)) : Type 0 where
  pub few : length rows < 2 ^ 16
  pub each : AllByRecursion (RowFits Fits nodes) rows

unfoldable pub row : {A : Type 0} → Reading A → ℕ → Reading (NodeRow A)
row {A} part nodes bytes = made (λ (p : ℕ × List A). record { node = p.0; entries = p.1 }) (both (below nodes (number w16)) (λ node. list part)) bytes

unfoldable pub rows : {A : Type 0} → Reading A → ℕ → Reading (List (NodeRow A))
rows part nodes bytes = counted (number w16) (λ before. row part nodes) bytes

-- what is read is spelled so, and what is spelled so is read
pub row_form : {A : Type 0} {part : Reading A} {text : A → List ℕ} {Fits : A → Type 0} → IsForm part text Fits → (nodes : ℕ) → nodes ≤ 2 ^ 16 → IsForm (row part nodes) (row_text text) (RowFits Fits nodes)
unfolding row
row_form {A} {part} {text} {Fits} form nodes few =
    made_form (λ (p : ℕ × List A). record { node = p.0; entries = p.1 })
    (both_form (below nodes (number w16)) (to_be_bytes w16) (λ n. n < nodes) (below_form nodes number16_form (λ n lt. omega arith)) (λ node. list part) (λ node. list_text text) (λ node. ListFits Fits) (λ node fits. list_form form))
    (row_text text) (RowFits Fits nodes)
    (λ p fits. (refl, fits))
    (λ r fits. ((r.node, r.entries), fits, refl))

pub rows_form : {A : Type 0} {part : Reading A} {text : A → List ℕ} {Fits : A → Type 0} → IsForm part text Fits → (nodes : ℕ) → nodes ≤ 2 ^ 16 → IsForm (rows part nodes) (rows_text text) (RowsFit Fits nodes)
unfolding rows
rows_form {part = part} {text} {Fits} form nodes few =
    fits_form (counted_form (λ before. row part nodes) (row_text text) (λ before. RowFits Fits nodes) (λ before. row_form form nodes few) (number w16) (to_be_bytes w16) (λ n. n < 2 ^ 16) number16_form)
    (λ rs fits. record { few = fits.0; each = each_fits (RowFits Fits nodes) [] rs fits.1 })
    (λ rs fits. (fits.few, fits_each (RowFits Fits nodes) [] rs fits.each))
