-- The text of a program of Cminor, one statement a line. An operator, a load and a choice stand in parentheses with their
-- parts; the statements of a sequence end with a line of their own.
use Rattle.std.specs.Prelude.{ℕ, List, [], ◌∷◌, ◌++◌, Option, Some, None, codes, map, take}
use Rattle.std.specs.List.{flat_map}
use Rattle.lang_base.specs.declared.program.Named.{Named}
use Rattle.lang_base.specs.declared.program.Program.{Program}
use Rattle.cminor_syntax.specs.Trees.{ExpressionTree, StatementTree, StatementsTree, FunctionTree}
use Rattle.cminor_syntax.specs.Trees as T
use Rattle.cminor_syntax.specs.Views.{expression_tree, optional_tree, statement_tree}
use Rattle.cminor_syntax.specs.declared.expression.Expression.{Expression}
use Rattle.cminor_syntax.specs.declared.statement.Statement.{Statement}
use Rattle.text_keys.specs.declared.key.Key.{Key}
use Rattle.text_keys.specs.declared.key.Key.TheVariants as key
use Rattle.text_keys.specs.declared.word.Letter.TheVariants as letter
use Rattle.text_keys.specs.declared.word.Word.{Word}
use Rattle.text_keys.specs.declared.word.Word.TheVariants as word
use Rattle.text_keys.specs.Lines.{spaced_word, spaced, line_end}
use Rattle.text_keys.specs.Words.{target_words}
use Rattle.text_common.specs.Functions.{shown_function}
use Rattle.text_common.specs.Programs.{shown_program}

abbrev pub variable_word : ℕ → Word
variable_word v = word.Lettered letter.Variable v

-- a global behind a blank
abbrev pub global_spaced : ℕ → List ℕ
global_spaced g = spaced_word (word.Lettered letter.Global g)

-- a key behind a blank
abbrev pub shown_key : Key → List ℕ
shown_key k = spaced_word (word.Named k)

abbrev pub shown_expression : ExpressionTree → List ℕ
shown_expression (T.Number w) = spaced_word (word.Number w)
shown_expression (T.Variable v) = spaced_word (variable_word v)
shown_expression (T.Load g i) = shown_key key.Start ++ (shown_key key.Load ++ (global_spaced g ++ (shown_expression i ++ shown_key key.Stop)))
shown_expression (T.Unary o e) = shown_key key.Start ++ (shown_key (key.Operator o) ++ (shown_expression e ++ shown_key key.Stop))
shown_expression (T.Binary o a b) = shown_key key.Start ++ (shown_key (key.Operator o) ++ (shown_expression a ++ (shown_expression b ++ shown_key key.Stop)))
shown_expression (T.Choice c a b) = shown_key key.Start ++ (shown_key key.Choose ++ (shown_expression c ++ (shown_expression a ++ (shown_expression b ++ shown_key key.Stop))))

abbrev pub shown_returned : Option ExpressionTree → List ℕ
shown_returned None = []
shown_returned (Some e) = shown_expression e

-- the variable that gets a result, and "="
abbrev pub shown_target : Option ℕ → List ℕ
shown_target target = spaced (target_words variable_word target)

-- one line
abbrev pub shown_line : List ℕ → List ℕ
shown_line text = codes " " ++ (text ++ line_end)

abbrev mutual
  pub shown_statement : StatementTree → List ℕ
  shown_statement T.Skip = shown_line (shown_key key.Skip)
  shown_statement (T.Assign v e) = shown_line (shown_target (Some v) ++ shown_expression e)
  shown_statement (T.Store g i e) = shown_line (shown_key key.Store ++ (global_spaced g ++ (shown_expression i ++ shown_expression e)))
  shown_statement (T.Call f target arguments) = shown_line (shown_target target ++ (shown_key key.Call ++ (spaced_word (word.Lettered letter.Function f) ++ flat_map shown_expression arguments)))
  shown_statement (T.Put target e) = shown_line (shown_target target ++ (shown_key key.Put ++ shown_expression e))
  shown_statement (T.Sequence ss) = shown_line (shown_key key.Sequence) ++ shown_statements ss
  shown_statement (T.If e s t) = shown_line (shown_key key.If ++ shown_expression e) ++ (shown_statement s ++ shown_statement t)
  shown_statement (T.Loop s) = shown_line (shown_key key.Loop) ++ shown_statement s
  shown_statement (T.Block s) = shown_line (shown_key key.Block) ++ shown_statement s
  shown_statement (T.Exit n) = shown_line (shown_key key.Exit ++ spaced_word (word.Number n))
  shown_statement (T.Return e) = shown_line (shown_key key.Return ++ shown_returned e)

  pub shown_statements : StatementsTree → List ℕ
  shown_statements T.Done = shown_line (shown_key key.End)
  shown_statements (T.First s rest) = shown_statement s ++ shown_statements rest

-- the texts of trees in memory
abbrev pub shown_value : Expression → List ℕ
shown_value e = shown_expression (expression_tree e)

abbrev pub shown_one : Statement → List ℕ
shown_one s = shown_statement (statement_tree s)

abbrev pub shown_sequence : List Statement → List ℕ
shown_sequence ss = shown_line (shown_key key.Sequence) ++ (flat_map shown_one ss ++ shown_line (shown_key key.End))

abbrev pub shown_store : ℕ → Expression → Expression → List ℕ
shown_store g i e = shown_statement (T.Store g (expression_tree i) (expression_tree e))

abbrev pub shown_call : ℕ → Option ℕ → List Expression → List ℕ
shown_call f target arguments = shown_statement (T.Call f target (map expression_tree arguments))

abbrev pub shown_condition : Expression → List ℕ
shown_condition e = shown_line (shown_key key.If ++ shown_value e)

abbrev pub shown_return : Option Expression → List ℕ
shown_return e = shown_statement (T.Return (optional_tree expression_tree e))

-- the variables that may be parameters
abbrev pub first_variables : List ℕ
first_variables = 0 ∷ 1 ∷ 2 ∷ 3 ∷ 4 ∷ 5 ∷ 6 ∷ 7 ∷ 8 ∷ 9 ∷ 10 ∷ 11 ∷ 12 ∷ 13 ∷ 14 ∷ 15 ∷ []

abbrev pub parameters_of : FunctionTree → List ℕ
parameters_of f = take f.parameters first_variables

-- how many variables a function has
abbrev pub size_words : FunctionTree → List Word
size_words f = word.Named key.Variables ∷ word.Number f.variables ∷ []

abbrev pub shown_body : FunctionTree → List ℕ
shown_body f = shown_statement f.body

-- `function NAME(PARAMETERS) variables N`, and the lines of its body
abbrev pub shown_named : Named FunctionTree → List ℕ
shown_named f = shown_function variable_word parameters_of size_words shown_body f

-- a function under a name
abbrev pub shown_under : List ℕ → FunctionTree → List ℕ
shown_under name f = shown_named (record { name = name; function = f })

abbrev pub shown_cminor : Program FunctionTree → List ℕ
shown_cminor p = shown_program (codes "cminor\n") shown_named p
