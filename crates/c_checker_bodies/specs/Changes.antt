-- What is set and changed, as the reader made it: the trees of its kinds.
use Rattle.std.specs.Prelude.{◌≡◌}
use Rattle.c_syntax.specs.declared.identifier.Identifier.{Identifier}
use Rattle.c_syntax.specs.declared.expression.AssignOperator.{AssignOperator}
use Rattle.c_syntax.specs.declared.expression.Expression.{Expression}
use Rattle.c_syntax.specs.declared.statement.Lvalue.{Lvalue}
use Rattle.c_syntax.specs.Trees.{ChangeTree, SetTree}
use Rattle.c_syntax.specs.Trees as T
use Rattle.c_syntax.specs.Views.{expression_tree, lvalue_tree}
use Rattle.c_program.specs.declared.action.Action.{Action}
use Rattle.c_program.specs.Views.{action_tree}
use Rattle.c_checker_rules.specs.declared.errors.CheckError.{CheckError}
use Rattle.c_checker_rules.specs.Told.{Tells}
use Rattle.c_checker_rules.specs.Names.{Scope}
use Rattle.c_checker_rules.specs.Statements as S
use Rattle.c_checker_rules.specs.Actions as A

-- a name or a cell becomes a value
abbrev pub becomes : Lvalue → Expression → SetTree
becomes lvalue value = T.Becomes (lvalue_tree lvalue) (expression_tree value)

-- a name is changed
abbrev pub name_changed : Identifier → AssignOperator → Expression → ChangeTree
name_changed name operator value = record { lvalue = T.Name name; operator = operator; value = expression_tree value }

-- a cell is changed
abbrev pub cell_changed : Identifier → Expression → AssignOperator → Expression → ChangeTree
cell_changed name index operator value =
    record { lvalue = T.Cell name (expression_tree index); operator = operator; value = expression_tree value }

-- The change has faults, and the first is told; the action is what it stands for.
abbrev pub TellsOfChange : Scope → ChangeTree → CheckError → Type 0
TellsOfChange scope c e = Tells e (S.change_faults scope c)

abbrev pub IsChange : Scope → ChangeTree → Action → Type 0
IsChange scope c a = action_tree a ≡ A.change_action scope c
