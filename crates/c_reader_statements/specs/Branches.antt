-- An `if` and its statements as they stand in memory (C99 6.8.4.1).
use Rattle.std.specs.Prelude.{Option}
use Rattle.std.specs.Global.{Box}
use Rattle.c_syntax.specs.declared.expression.Expression.{Expression}
use Rattle.c_syntax.specs.declared.statement.Statement.{Statement}
use Rattle.c_syntax.specs.Trees.{StatementTree}
use Rattle.c_syntax.specs.Views.{statement_tree, expression_tree, optional_tree}
use Rattle.c_reader_statement_laws.specs.Reading.{branched}

-- a statement in a box
abbrev pub boxed_tree : Box Statement → StatementTree
boxed_tree b = statement_tree b.value

-- the statement behind `else`, if there is one
abbrev pub other_tree : Option (Box Statement) → Option StatementTree
other_tree other = optional_tree boxed_tree other

-- the statement of an `if`, and the one behind `else`
abbrev pub branches_tree : Box Statement × Option (Box Statement) → StatementTree × Option StatementTree
branches_tree branches = (boxed_tree branches.0, other_tree branches.1)

abbrev pub branched_tree : Expression → Box Statement × Option (Box Statement) → StatementTree
branched_tree condition branches = branched (expression_tree condition) (boxed_tree branches.0) (other_tree branches.1)
