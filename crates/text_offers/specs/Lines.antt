-- The lines of certificates.
use Rattle.std.specs.Prelude.{ℕ, List, [], ◌∷◌, ◌++◌, codes, map}
use Rattle.std.specs.List.{flat_map}
use Rattle.rtl_passes_marks.specs.declared.row.NodeRow.{NodeRow}
use Rattle.text_keys.specs.declared.word.Word.{Word}
use Rattle.text_keys.specs.declared.word.Word.TheVariants as word
use Rattle.text_keys.specs.Lines.{spaced, line_end}
use Rattle.text_common.specs.Programs.{number_word}

-- the words of an entry, behind one more blank
abbrev pub entry_line : {A : Type 0} → (A → List Word) → A → List ℕ
entry_line words x = codes " " ++ (spaced (words x) ++ line_end)

-- `row N`, and a line for each of its entries
abbrev pub row_lines : {A : Type 0} → (A → List Word) → NodeRow A → List ℕ
row_lines words row = codes "row" ++ (spaced (word.Number row.node ∷ []) ++ (line_end ++ flat_map (entry_line words) row.entries))

abbrev pub rows_lines : {A : Type 0} → (A → List Word) → List (NodeRow A) → List ℕ
rows_lines words rows = flat_map (row_lines words) rows

-- `order N N ..`
abbrev pub order_line : List ℕ → List ℕ
order_line nodes = codes "order" ++ (spaced (map number_word nodes) ++ line_end)
