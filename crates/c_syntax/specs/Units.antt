-- What a unit holds, and the tree that it stands for.
use Rattle.std.specs.Prelude.{ℕ, List, map}
use Rattle.c_syntax.specs.declared.declaration.Declaration.{Declaration}
use Rattle.c_syntax.specs.Trees.{UnitTree}
use Rattle.c_syntax.specs.Views.{declaration_tree}

pub record Contents : Type 0 where
  pub declarations : List Declaration
  pub end : ℕ

abbrev pub unit_tree : Contents → UnitTree
unit_tree u = record { declarations = map declaration_tree u.declarations; end = u.end }
