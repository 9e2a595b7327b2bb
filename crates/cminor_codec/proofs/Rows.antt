-- A sequence's statements, in memory and as a list.
use Rattle.std.proofs.Common.{◌≡◌, List, [], ◌∷◌, map, refl, ap, rules}
use Rattle.std.specs.Global.{Vec}
use Rattle.cminor_syntax.specs.Trees as T
use Rattle.cminor_syntax.specs.Views.{statement_tree, statements_tree, row_tree}
use Rattle.cminor_syntax.specs.declared.statement.Statement.{Statement, Row_of-Statement, end_of-Statement, more_of-Statement, items-the_row-Statement, Sequence, the_lemmas}
use Rattle.cminor_form.specs.Reading.{sequence_of}

pub row_named : (m : _) (k : Row_of-Statement m) → row_tree k ≡ statements_tree (items-the_row-Statement m k)
row_named _ end_of-Statement = refl
row_named _ (more_of-Statement s rest) = ap (λ l. T.First (statement_tree s) l) (row_named _ rest)

pub view_sequence : (v : Vec Statement) → statement_tree (Sequence v) ≡ T.Sequence (statements_tree v.items)
view_sequence v = search (rules, row_named, the_lemmas)

pub statements_named : (xs : List Statement) → sequence_of (map statement_tree xs) ≡ statements_tree xs
statements_named [] = refl
statements_named (x ∷ xs) = ap (λ s. T.First (statement_tree x) s) (statements_named xs)
