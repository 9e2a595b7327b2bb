-- The tree that a value of the code stands for: the same, without its addresses in memory.
use Rattle.std.specs.Prelude.{List, [], ◌∷◌, map}
use Rattle.c_program.specs.Trees.{TermTree, GivenTree, ActionTree, ActionsTree, FunctionTree}
use Rattle.c_program.specs.Trees as T
use Rattle.c_program.specs.declared.term.Term.{Term}
use Rattle.c_program.specs.declared.term.Term.TheVariants as E
use Rattle.c_program.specs.declared.action.Value.{Value}
use Rattle.c_program.specs.declared.action.Value.TheVariants as V
use Rattle.c_program.specs.declared.action.Action.{Action, Row_of-Action, end_of-Action, more_of-Action}
use Rattle.c_program.specs.declared.action.Action.TheVariants as A
use Rattle.c_program.specs.declared.function.Function as F

abbrev pub term_tree : Term → TermTree
term_tree (E.Constant w) = T.Constant w
term_tree (E.Local n) = T.Local n
term_tree (E.Cell' g p e) = T.Cell g (term_tree e)
term_tree (E.Unary' o p a) = T.Unary o (term_tree a)
term_tree (E.Binary' o p a q b) = T.Binary o (term_tree a) (term_tree b)
term_tree (E.Both' p a q b) = T.Both (term_tree a) (term_tree b)
term_tree (E.Either' p a q b) = T.Either (term_tree a) (term_tree b)
term_tree (E.Conditional' p c q a r b) = T.Conditional (term_tree c) (term_tree a) (term_tree b)

abbrev pub given_tree : Value → GivenTree
given_tree (V.Term e) = T.Plain (term_tree e)
given_tree (V.Call c) = T.Called c.function (map term_tree c.arguments)
given_tree (V.Put e) = T.Put (term_tree e)

abbrev mutual
  pub action_tree : Action → ActionTree
  action_tree A.Nothing = T.Nothing
  action_tree (A.Declare n) = T.Declare n
  action_tree (A.Sequence' shape all) = T.Sequence (row_tree all)
  action_tree (A.Give target v) = T.Give target (given_tree v)
  action_tree (A.Store g i e) = T.Store g (term_tree i) (term_tree e)
  action_tree (A.Update g i o e) = T.Update g (term_tree i) o (term_tree e)
  action_tree (A.If' c p s q t) = T.If (term_tree c) (action_tree s) (action_tree t)
  action_tree (A.Loop' c p s q t) = T.Loop (term_tree c) (action_tree s) (action_tree t)
  action_tree A.Break = T.Break
  action_tree A.Continue = T.Continue
  action_tree A.Leave = T.Leave

  pub row_tree : {m : _} → Row_of-Action m → ActionsTree
  row_tree end_of-Action = T.Done
  row_tree (more_of-Action s rest) = T.First (action_tree s) (row_tree rest)

abbrev pub actions_tree : List Action → ActionsTree
actions_tree [] = T.Done
actions_tree (s ∷ rest) = T.First (action_tree s) (actions_tree rest)

abbrev pub function_tree : F.Function → FunctionTree
function_tree f = record { name = f.name; parameters = f.parameters; locals = f.locals; ending = f.ending; body = actions_tree f.body }
