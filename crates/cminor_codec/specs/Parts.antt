-- What each reader of this crate reads, where the parts have so much fuel; and what each writer writes.
use Rattle.std.specs.Prelude.{ℕ, List, [], Option}
use Rattle.std.specs.Int.{w32, to_be_bytes}
use Rattle.std.specs.List.{flat_map}
use Rattle.ints.specs.declared.operators.Op.{Op}
use Rattle.ints.specs.Codes.{argument_count_of}
use Rattle.lang_base.specs.Reading.{Reading, made, more}
use Rattle.lang_base.specs.Texts.{optional_text}
use Rattle.cminor_syntax.specs.declared.expression.Expression.{Expression}
use Rattle.cminor_syntax.specs.declared.statement.Statement.{Statement}
use Rattle.cminor_syntax.specs.Trees.{ExpressionTree, StatementTree}
use Rattle.cminor_syntax.specs.Views.{expression_tree, statement_tree, statements_tree, optional_tree}
use Rattle.cminor_syntax.specs.Fits.{statement_count}
use Rattle.cminor_form.specs.Reading.{operands, applied, expression_by_code, expression, plain_statement, branch, statement_by_code, statement}
use Rattle.cminor_form.specs.Spelling.{expression_text, statement_text}
use Rattle.cminor_codec.specs.Codes.{store_text}

-- an expression, by its first byte
abbrev pub coded_expression : (below variables : ℕ) → Reading ExpressionTree
coded_expression below variables bytes = expression_by_code variables (expression below variables) bytes

-- an operator's operands
abbrev pub operands_of : Op → (below variables : ℕ) → Reading ExpressionTree
operands_of op below variables bytes = made (applied op) (operands (argument_count_of op) (expression below variables)) bytes

-- so many expressions
abbrev pub expressions : (count fuel variables : ℕ) → Reading (List ExpressionTree)
expressions count fuel variables bytes = more (λ before. expression fuel variables) [] count bytes

-- what stands behind the first byte of a statement without statements in it
abbrev pub behind_code : (code fuel variables : ℕ) → Reading StatementTree
behind_code code fuel variables bytes = plain_statement variables (expression fuel variables) code bytes

-- a statement, by its first byte
abbrev pub coded_statement : (below variables : ℕ) → Reading StatementTree
coded_statement below variables bytes = statement_by_code variables (expression below variables) (statement below variables) bytes

-- so many statements
abbrev pub statements : (count below variables : ℕ) → Reading (List StatementTree)
statements count below variables bytes = more (λ before. statement below variables) [] count bytes

-- a condition and two statements
abbrev pub condition_and_two : (below variables : ℕ) → Reading StatementTree
condition_and_two below variables bytes = branch (expression below variables) (statement below variables) bytes

-- expressions one behind the other
abbrev pub expressions_text : List Expression → List ℕ
expressions_text all = flat_map (λ e. expression_text (expression_tree e)) all

-- what a return gives, if anything
abbrev pub returned_text : Option Expression → List ℕ
returned_text value = optional_text expression_text (optional_tree expression_tree value)

-- the number of a sequence's statements
abbrev pub count_text : List Statement → List ℕ
count_text all = to_be_bytes w32 (statement_count (statements_tree all))

-- a global, the index of a cell, and the word that it becomes
abbrev pub stored_text : ℕ → Expression → Expression → List ℕ
stored_text global index value = store_text global (expression_tree index) (expression_tree value)

-- statements one behind the other
abbrev pub statements_text : List Statement → List ℕ
statements_text all = flat_map (λ s. statement_text (statement_tree s)) all
