-- Whether a tree in memory is the one that is made of these parts.
use Rattle.std.specs.Prelude.{ℕ, Bool, Option}
use Rattle.ints.specs.declared.operators.Op.{Op}
use Rattle.cminor_syntax.specs.declared.expression.Expression.{Expression}
use Rattle.cminor_syntax.specs.declared.statement.Statement.{Statement}
use Rattle.cminor_syntax.specs.Trees as T
use Rattle.cminor_syntax.specs.Views.{expression_tree, statement_tree, optional_tree}
use Rattle.cminor_language.specs.Same.{same_expression, same_option, same_statement}

-- an operator on two expressions
abbrev pub is_binary : Expression → Op → Expression → Expression → Bool
is_binary e op a b = same_expression (expression_tree e) (T.Binary op (expression_tree a) (expression_tree b))

-- one of two expressions, by a third
abbrev pub is_choice : Expression → Expression → Expression → Expression → Bool
is_choice e c a b = same_expression (expression_tree e) (T.Choice (expression_tree c) (expression_tree a) (expression_tree b))

-- the same expression, or none
abbrev pub same_returned : Option Expression → Option Expression → Bool
same_returned a b = same_option same_expression (optional_tree expression_tree a) (optional_tree expression_tree b)

-- a cell of a global becomes a word
abbrev pub is_store : Statement → ℕ → Expression → Expression → Bool
is_store s global index value =
    same_statement (statement_tree s) (T.Store global (expression_tree index) (expression_tree value))

-- one of two statements, by an expression
abbrev pub is_if : Statement → Expression → Statement → Statement → Bool
is_if s condition then other =
    same_statement (statement_tree s) (T.If (expression_tree condition) (statement_tree then) (statement_tree other))
