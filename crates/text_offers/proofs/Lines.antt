-- The lines of certificates tell them, where nothing stands behind.
use Rattle.std.proofs.Common.{◌≡◌, ℕ, ◌<◌, ◌≤◌, ◌^◌, List, [], ◌∷◌, ◌++◌, codes, map, refl, sym, ap, ◌∙◌, subst, arith}
use Rattle.std.specs.List.{AllByRecursion, flat_map}
use Rattle.std.proofs.lemmas.List.{append_assoc, append_cancel_left, append-nil}
use Rattle.rtl_passes_marks.specs.declared.row.NodeRow.{NodeRow}
use Rattle.rtl_passes_marks.specs.RowForm.{RowFits}
use Rattle.text_keys.specs.declared.word.Word.{Word}
use Rattle.text_keys.specs.declared.word.Word.TheVariants as word
use Rattle.text_keys.specs.Words.{WordFits}
use Rattle.text_keys.specs.Lines.{spaced, line_end}
use Rattle.text_keys.proofs.Clear.{Clear, Outside, many_clear}
use Rattle.text_keys.proofs.Lines.{line_clear, words_tell}
use Rattle.text_keys.proofs.Reading.{number_of, at}
use Rattle.text_common.specs.Programs.{number_word}
use Rattle.text_offers.specs.Lines.{entry_line, row_lines, rows_lines, order_line}

-- nothing stands behind
abbrev pub IsEnd : List ℕ → Type 0
IsEnd r = r ≡ []

pub outside : (c : ℕ) (r : List ℕ) → IsEnd r → Outside c r
outside c r e = subst (Outside c) (sym e) tt

-- ---- rows

-- the words of an entry are in range
abbrev pub EntryFits : {A : Type 0} → (A → List Word) → A → Type 0
EntryFits words x = AllByRecursion WordFits (words x)

pub record RowIsTold {A : Type 0} (words : A → List Word) (row : NodeRow A) : Type 0 where
  pub node : row.node < 2 ^ 64
  pub entries : AllByRecursion (EntryFits words) row.entries

module _ {A : Type 0} (words : A → List Word) (read : List Word → A) (again : (x : A) → read (words x) ≡ x) where
  entry_clear : Clear (entry_line words) (EntryFits words) (λ _. Unit {0})
  entry_clear = line_clear words (λ _. []) (λ _. []) (EntryFits words) read (λ x. ap read (append-nil (words x)) ∙ again x) (λ x fits. fits) (λ x fits. tt) (λ x fits. tt) (codes " ")

  entries_clear : Clear (flat_map (entry_line words)) (AllByRecursion (EntryFits words)) (Outside 32)
  entries_clear = many_clear (entry_line words) (EntryFits words) (λ _. Unit {0}) (Outside 32) 32 (λ x. (_, refl)) entry_clear (λ r ends. tt) (λ r ends. ends) (λ r. tt)

  abbrev below : NodeRow A → List ℕ
  below row = flat_map (entry_line words) row.entries

  abbrev number : NodeRow A → List Word
  number row = word.Number row.node ∷ []

  -- what stands behind "row"
  abbrev rest : NodeRow A → List ℕ
  rest row = spaced (number row) ++ (line_end ++ below row)

  row_clear : Clear (row_lines words) (RowIsTold words) (Outside 32)
  row_clear a b r s fits fits' ends ends' e =
      let behind : rest a ++ r ≡ rest b ++ s = append_cancel_left (codes "row") (rest a ++ r) (rest b ++ s) e in
      let node = words_tell (number a) (number b) (below a ++ r) (below b ++ s) (fits.node, tt) (fits'.node, tt)
      (sym (append_assoc (spaced (number a)) (line_end ++ below a) r) ∙ behind ∙ append_assoc (spaced (number b)) (line_end ++ below b) s) in
      let entries = entries_clear a.entries b.entries r s fits.entries fits'.entries ends ends' node.1 in
      (λ i. record { node = at (node.0 i); entries = entries.0 i }, entries.1)

  pub rows_clear : Clear (rows_lines words) (AllByRecursion (RowIsTold words)) IsEnd
  rows_clear = many_clear (row_lines words) (RowIsTold words) (Outside 32) IsEnd 114 (λ row. (_, refl)) row_clear (outside 32) (outside 114) (λ r e. omega (arith, e))

-- rows begin with no blank
pub rows_outside : {A : Type 0} (words : A → List Word) (rows : List (NodeRow A)) → Outside 32 (rows_lines words rows)
rows_outside words [] = tt
rows_outside words (row ∷ rows) = λ e. omega (arith, e)

-- rows that can be written are told, where their entries are
module _ {A : Type 0} (words : A → List Word) (Fits : A → Type 0) (fit : (x : A) → Fits x → EntryFits words x) where
  entries_fit : (xs : List A) → AllByRecursion Fits xs → AllByRecursion (EntryFits words) xs
  entries_fit [] fits = tt
  entries_fit (x ∷ xs) fits = (fit x fits.0, entries_fit xs fits.1)

  pub rows_fit : (nodes : ℕ) → nodes ≤ 2 ^ 16 → (rows : List (NodeRow A)) → AllByRecursion (RowFits Fits nodes) rows → AllByRecursion (RowIsTold words) rows
  rows_fit nodes few [] fits = tt
  rows_fit nodes few (row ∷ rows) fits = (record { node = omega (arith, fits.0.0, few); entries = entries_fit row.entries fits.0.1.each }, rows_fit nodes few rows fits.1)

-- ---- orders

-- each number is one of 64 bits
abbrev pub OrderIsTold : List ℕ → Type 0
OrderIsTold nodes = AllByRecursion (λ n. n < 2 ^ 64) nodes

numbers_again : (ns : List ℕ) → map number_of (map number_word ns) ≡ ns
numbers_again [] = refl
numbers_again (n ∷ ns) = ap (λ t. n ∷ t) (numbers_again ns)

numbers_fit : (ns : List ℕ) → OrderIsTold ns → AllByRecursion WordFits (map number_word ns)
numbers_fit [] fits = tt
numbers_fit (n ∷ ns) fits = (fits.0, numbers_fit ns fits.1)

pub order_clear : Clear order_line OrderIsTold IsEnd
order_clear a b r s fits fits' ends ends' e =
    let told = words_tell (map number_word a) (map number_word b) r s (numbers_fit a fits) (numbers_fit b fits')
    (sym (append_assoc (spaced (map number_word a)) line_end r) ∙ append_cancel_left (codes "order") _ _ e ∙ append_assoc (spaced (map number_word b)) line_end s) in
    (sym (numbers_again a) ∙ ap (map number_of) told.0 ∙ numbers_again b, told.1)

pub order_outside : (nodes : List ℕ) → Outside 32 (order_line nodes)
order_outside nodes = λ e. omega (arith, e)

pub order_fits : (count : ℕ) → count ≤ 2 ^ 16 → (ns : List ℕ) → AllByRecursion (λ n. n < count) ns → OrderIsTold ns
order_fits count few [] fits = tt
order_fits count few (n ∷ ns) fits = (omega (arith, fits.0, few), order_fits count few ns fits.1)
