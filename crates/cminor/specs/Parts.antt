-- The trees that are put together of parts, asked of the parts as they stand in memory.
use Rattle.cminor_syntax.specs.declared.expression.Expression.{Expression}
use Rattle.cminor_syntax.specs.declared.statement.Statement.{Statement}
use Rattle.cminor_syntax.specs.Trees.{ExpressionTree, StatementTree}
use Rattle.cminor_syntax.specs.Trees as T
use Rattle.cminor_syntax.specs.Views.{expression_tree, statement_tree}
use Rattle.cminor_lowering.specs.Actions.{turn}

-- the value where a condition is not 0, and the value where it is
abbrev pub choice_tree : (condition then other : Expression) → ExpressionTree
choice_tree condition then other = T.Choice (expression_tree condition) (expression_tree then) (expression_tree other)

abbrev pub three_tree : (first second third : Statement) → StatementTree
three_tree first second third =
    T.Sequence (T.First (statement_tree first) (T.First (statement_tree second) (T.First (statement_tree third) T.Done)))

-- a turn of a loop: its condition, its body, and what stands behind that
abbrev pub turn_tree : Expression → (body behind : Statement) → StatementTree
turn_tree condition body behind = turn (expression_tree condition) (statement_tree body) (statement_tree behind)

-- the loop of such turns, in the block that it leaves
abbrev pub turns_tree : Expression → (body behind : Statement) → StatementTree
turns_tree condition body behind = T.Block (T.Loop (turn_tree condition body behind))
