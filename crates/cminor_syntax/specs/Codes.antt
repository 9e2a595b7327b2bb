-- A code for trees, by which a proof tells them apart: their nodes in postfix order, and the stack that reads those.
use Rattle.std.specs.Prelude.{◌≡◌, ℕ, List, [], ◌∷◌, ◌++◌, Option, refl}
use Rattle.std.specs.Coded.{Coded, code_by, coded_list}
use Rattle.std.proofs.Common.{ap, ◌∙◌}
use Rattle.machine.specs.Op.{Op}
use Rattle.cminor_syntax.specs.Trees.{ExpressionTree, StatementTree, StatementsTree, FunctionTree}
use Rattle.cminor_syntax.specs.Trees as T

-- a node of an expression, its parts left out
pub data ExpressionNode : Type 0 where
  Number : (w : ℕ) → ExpressionNode
  Variable : (v : ℕ) → ExpressionNode
  Load : (g : ℕ) → ExpressionNode
  Unary : (o : Op) → ExpressionNode
  Binary : (o : Op) → ExpressionNode
  Choice : ExpressionNode

-- the top of a stack, and what is below it
abbrev top : {A : Type 0} → A → List A → A
top other [] = other
top other (x ∷ xs) = x

abbrev below : {A : Type 0} → List A → List A
below [] = []
below (x ∷ xs) = xs

abbrev top_expression : List ExpressionTree → ExpressionTree
top_expression es = top (T.Number 0) es

abbrev expression_step : ExpressionNode → List ExpressionTree → List ExpressionTree
expression_step (Number w) es = T.Number w ∷ es
expression_step (Variable v) es = T.Variable v ∷ es
expression_step (Load g) es = T.Load g (top_expression es) ∷ below es
expression_step (Unary o) es = T.Unary o (top_expression es) ∷ below es
expression_step (Binary o) es = T.Binary o (top_expression (below es)) (top_expression es) ∷ below (below es)
expression_step Choice es = T.Choice (top_expression (below (below es))) (top_expression (below es)) (top_expression es) ∷ below (below (below es))

abbrev expression_steps : List ExpressionNode → List ExpressionTree → List ExpressionTree
expression_steps [] es = es
expression_steps (n ∷ ns) es = expression_steps ns (expression_step n es)

abbrev expression_nodes : ExpressionTree → List ExpressionNode
expression_nodes (T.Number w) = Number w ∷ []
expression_nodes (T.Variable v) = Variable v ∷ []
expression_nodes (T.Load g i) = expression_nodes i ++ Load g ∷ []
expression_nodes (T.Unary o e) = expression_nodes e ++ Unary o ∷ []
expression_nodes (T.Binary o a b) = expression_nodes a ++ (expression_nodes b ++ Binary o ∷ [])
expression_nodes (T.Choice c a b) = expression_nodes c ++ (expression_nodes a ++ (expression_nodes b ++ Choice ∷ []))

steps_append : (ms ns : List ExpressionNode) (es : List ExpressionTree) → expression_steps (ms ++ ns) es ≡ expression_steps ns (expression_steps ms es)
steps_append [] ns es = refl
steps_append (m ∷ ms) ns es = steps_append ms ns (expression_step m es)

pub expression_back : (e : ExpressionTree) (es : List ExpressionTree) → expression_steps (expression_nodes e) es ≡ e ∷ es
expression_back (T.Number w) es = refl
expression_back (T.Variable v) es = refl
expression_back (T.Load g i) es = rw (steps_append (expression_nodes i) (Load g ∷ []) es, expression_back i es) refl
expression_back (T.Unary o e) es = rw (steps_append (expression_nodes e) (Unary o ∷ []) es, expression_back e es) refl
expression_back (T.Binary o a b) es =
    rw (steps_append (expression_nodes a) (expression_nodes b ++ Binary o ∷ []) es, expression_back a es, steps_append (expression_nodes b) (Binary o ∷ []) (a ∷ es), expression_back b (a ∷ es)) refl
expression_back (T.Choice c a b) es =
    rw (steps_append (expression_nodes c) (expression_nodes a ++ (expression_nodes b ++ Choice ∷ [])) es, expression_back c es, steps_append (expression_nodes a) (expression_nodes b ++ Choice ∷ []) (c ∷ es), expression_back a (c ∷ es), steps_append (expression_nodes b) (Choice ∷ []) (a ∷ c ∷ es), expression_back b (a ∷ c ∷ es)) refl

abbrev pub expression_code : Coded ExpressionNode → Coded ExpressionTree
expression_code node = code_by (List ExpressionNode) (coded_list node) expression_nodes (λ ns. top_expression (expression_steps ns [])) (λ e. ap top_expression (expression_back e []))

-- a node of a statement, its statements left out
pub data StatementNode : Type 0 where
  Skip : StatementNode
  Assign : (v : ℕ) (e : ExpressionTree) → StatementNode
  Store : (g : ℕ) (i e : ExpressionTree) → StatementNode
  Call : (f : ℕ) (target : Option ℕ) (arguments : List ExpressionTree) → StatementNode
  Put : (target : Option ℕ) (e : ExpressionTree) → StatementNode
  Sequence : StatementNode
  If : (e : ExpressionTree) → StatementNode
  Loop : StatementNode
  Block : StatementNode
  Exit : (n : ℕ) → StatementNode
  Return : (e : Option ExpressionTree) → StatementNode
  Done : StatementNode
  First : StatementNode

-- the statements and the lists of statements that are read
pub record Stack : Type 0 where
  pub ones : List StatementTree
  pub lists : List StatementsTree

abbrev one : Stack → StatementTree
one k = top T.Skip k.ones

abbrev two : Stack → StatementTree
two k = top T.Skip (below k.ones)

abbrev pushed : StatementTree → Stack → Stack
pushed s k = record { ones = s ∷ k.ones; lists = k.lists }

abbrev statement_step : StatementNode → Stack → Stack
statement_step Skip k = pushed T.Skip k
statement_step (Assign v e) k = pushed (T.Assign v e) k
statement_step (Store g i e) k = pushed (T.Store g i e) k
statement_step (Call f target arguments) k = pushed (T.Call f target arguments) k
statement_step (Put target e) k = pushed (T.Put target e) k
statement_step Sequence k = record { ones = T.Sequence (top T.Done k.lists) ∷ k.ones; lists = below k.lists }
statement_step (If e) k = record { ones = T.If e (two k) (one k) ∷ below (below k.ones); lists = k.lists }
statement_step Loop k = record { ones = T.Loop (one k) ∷ below k.ones; lists = k.lists }
statement_step Block k = record { ones = T.Block (one k) ∷ below k.ones; lists = k.lists }
statement_step (Exit n) k = pushed (T.Exit n) k
statement_step (Return e) k = pushed (T.Return e) k
statement_step Done k = record { ones = k.ones; lists = T.Done ∷ k.lists }
statement_step First k = record { ones = below k.ones; lists = T.First (one k) (top T.Done k.lists) ∷ below k.lists }

abbrev statement_steps : List StatementNode → Stack → Stack
statement_steps [] k = k
statement_steps (n ∷ ns) k = statement_steps ns (statement_step n k)

abbrev mutual
  statement_nodes : StatementTree → List StatementNode
  statement_nodes T.Skip = Skip ∷ []
  statement_nodes (T.Assign v e) = Assign v e ∷ []
  statement_nodes (T.Store g i e) = Store g i e ∷ []
  statement_nodes (T.Call f target arguments) = Call f target arguments ∷ []
  statement_nodes (T.Put target e) = Put target e ∷ []
  statement_nodes (T.Sequence ss) = statements_nodes ss ++ Sequence ∷ []
  statement_nodes (T.If e s t) = statement_nodes s ++ (statement_nodes t ++ If e ∷ [])
  statement_nodes (T.Loop s) = statement_nodes s ++ Loop ∷ []
  statement_nodes (T.Block s) = statement_nodes s ++ Block ∷ []
  statement_nodes (T.Exit n) = Exit n ∷ []
  statement_nodes (T.Return e) = Return e ∷ []

  statements_nodes : StatementsTree → List StatementNode
  statements_nodes T.Done = Done ∷ []
  statements_nodes (T.First s rest) = statement_nodes s ++ (statements_nodes rest ++ First ∷ [])

statements_append : (ms ns : List StatementNode) (k : Stack) → statement_steps (ms ++ ns) k ≡ statement_steps ns (statement_steps ms k)
statements_append [] ns k = refl
statements_append (m ∷ ms) ns k = statements_append ms ns (statement_step m k)

abbrev listed : StatementsTree → Stack → Stack
listed ss k = record { ones = k.ones; lists = ss ∷ k.lists }

mutual
  pub statement_back : (s : StatementTree) (k : Stack) → statement_steps (statement_nodes s) k ≡ pushed s k
  statement_back T.Skip k = refl
  statement_back (T.Assign v e) k = refl
  statement_back (T.Store g i e) k = refl
  statement_back (T.Call f target arguments) k = refl
  statement_back (T.Put target e) k = refl
  statement_back (T.Sequence ss) k = statements_append (statements_nodes ss) (Sequence ∷ []) k ∙ ap (statement_steps (Sequence ∷ [])) (statements_back ss k)
  statement_back (T.If e s t) k =
      statements_append (statement_nodes s) (statement_nodes t ++ If e ∷ []) k
      ∙ ap (statement_steps (statement_nodes t ++ If e ∷ [])) (statement_back s k)
      ∙ statements_append (statement_nodes t) (If e ∷ []) (pushed s k)
      ∙ ap (statement_steps (If e ∷ [])) (statement_back t (pushed s k))
  statement_back (T.Loop s) k = statements_append (statement_nodes s) (Loop ∷ []) k ∙ ap (statement_steps (Loop ∷ [])) (statement_back s k)
  statement_back (T.Block s) k = statements_append (statement_nodes s) (Block ∷ []) k ∙ ap (statement_steps (Block ∷ [])) (statement_back s k)
  statement_back (T.Exit n) k = refl
  statement_back (T.Return e) k = refl

  statements_back : (ss : StatementsTree) (k : Stack) → statement_steps (statements_nodes ss) k ≡ listed ss k
  statements_back T.Done k = refl
  statements_back (T.First s rest) k =
      statements_append (statement_nodes s) (statements_nodes rest ++ First ∷ []) k
      ∙ ap (statement_steps (statements_nodes rest ++ First ∷ [])) (statement_back s k)
      ∙ statements_append (statements_nodes rest) (First ∷ []) (pushed s k)
      ∙ ap (statement_steps (First ∷ [])) (statements_back rest (pushed s k))

abbrev empty : Stack
empty = record { ones = []; lists = [] }

abbrev pub statement_code : Coded StatementNode → Coded StatementTree
statement_code node = code_by (List StatementNode) (coded_list node) statement_nodes (λ ns. one (statement_steps ns empty)) (λ s. ap one (statement_back s empty))
