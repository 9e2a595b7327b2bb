-- Rows that are told by their numbers.
use Rattle.std.proofs.Common.{◌≡◌, ℕ, zero, suc, ◌+◌, ◌<◌, List, [], ◌∷◌, length, get_or, drop, map, replicate, refl, sym, ap, ◌∙◌, arith}
use Rattle.std.specs.Prelude.{slice_set}
use Rattle.std.proofs.lemmas.List.{map-set, at_drop_more}
use Rattle.std.proofs.lemmas.Option.{slice_get_read, slice_get_past}
use Rattle.rtl_passes_marks.specs.declared.row.NodeRow.{NodeRow}
use Rattle.rtl_passes_marks.specs.Handing.{entries_in, entries_by, spread_on}

-- the number behind the last is that of no row
pub none_behind : {A : Type 0} (rows : List (NodeRow A)) (nodes : ℕ) → map (entries_by rows) (replicate nodes (length rows)) ≡ replicate nodes []
none_behind rows zero = refl
none_behind rows (suc nodes) =
    ap (λ es. es ∷ map (entries_by rows) (replicate nodes (length rows))) (ap entries_in (slice_get_past rows (length rows) (omega arith)))
    ∙ ap (λ ls. [] ∷ ls) (none_behind rows nodes)

-- one row on
pub row_on : {A : Type 0} (rows : List (NodeRow A)) (all : List (List A)) (places new : List ℕ) (k : ℕ) (row : NodeRow A) → k < length rows → row ≡ get_or rows k row → new ≡ slice_set places row.node k → spread_on (drop k rows) (map (entries_by rows) places) ≡ all → spread_on (drop (k + 1) rows) (map (entries_by rows) new) ≡ all
row_on {A} rows all places new k row within is new_is before =
    let said = map (entries_by rows) places in
    let rest = drop (k + 1) rows in
    let own : entries_by rows k ≡ row.entries = ap entries_in (slice_get_read rows (length rows) k row refl within is) in
    ap (λ ps. spread_on rest (map (entries_by rows) ps)) new_is
    ∙ ap (spread_on rest) (map-set (entries_by rows) places row.node k)
    ∙ ap (λ es. spread_on rest (slice_set said row.node es)) own
    ∙ ap (λ (r : NodeRow A). spread_on (r ∷ rest) said) is
    ∙ sym (at_drop_more (λ rs. spread_on rs said) rows k row within)
    ∙ before
