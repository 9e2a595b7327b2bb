-- A block's statements, in memory and as a list.
use Rattle.std.proofs.Common.{◌≡◌, refl, ap, rules}
use Rattle.std.specs.Global.{Vec}
use Rattle.c_syntax.specs.Trees as T
use Rattle.c_syntax.specs.Views.{statement_tree, statements_tree, row_tree}
use Rattle.c_syntax.specs.declared.statement.Statement.{Statement, Row_of-Statement, end_of-Statement, more_of-Statement, items-the_row-Statement, Block, the_lemmas}

row_named : (m : _) (k : Row_of-Statement m) → row_tree k ≡ statements_tree (items-the_row-Statement m k)
row_named _ end_of-Statement = refl
row_named _ (more_of-Statement s rest) = ap (λ l. T.First (statement_tree s) l) (row_named _ rest)

pub view_block : (v : Vec Statement) → statement_tree (Block v) ≡ T.Block (statements_tree v.items)
view_block v = search (rules, row_named, the_lemmas)
