-- The places of a program's parts, in a list: for each tree its own place, and behind it those of its parts from left to right. An
-- expression that is given to a target has no place of its own beside that of the giving, and an update has a second: its operator's.
use Rattle.std.specs.Prelude.{ℕ, List, [], ◌∷◌}
use Rattle.c_program.specs.Trees.{TermTree, GivenTree, ActionTree, ActionsTree}
use Rattle.c_program.specs.Trees as T

-- the place that stands first: 0 where there is none
abbrev pub own : List ℕ → ℕ
own [] = 0
own (p ∷ ps) = p

-- the places behind it
abbrev pub others : List ℕ → List ℕ
others [] = []
others (p ∷ ps) = ps

-- the places behind those of a term
abbrev pub behind : TermTree → List ℕ → List ℕ
behind (T.Constant w) ps = others ps
behind (T.Local n) ps = others ps
behind (T.Cell g i) ps = behind i (others ps)
behind (T.Unary o a) ps = behind a (others ps)
behind (T.Binary o a b) ps = behind b (behind a (others ps))
behind (T.Both a b) ps = behind b (behind a (others ps))
behind (T.Either a b) ps = behind b (behind a (others ps))
behind (T.Conditional c a b) ps = behind b (behind a (behind c (others ps)))

abbrev pub behind_terms : List TermTree → List ℕ → List ℕ
behind_terms [] ps = ps
behind_terms (e ∷ es) ps = behind_terms es (behind e ps)

abbrev pub behind_given : GivenTree → List ℕ → List ℕ
behind_given (T.Plain e) ps = behind e ps
behind_given (T.Called f arguments) ps = behind_terms arguments ps
behind_given (T.Put e) ps = behind e ps

abbrev mutual
  pub behind_action : ActionTree → List ℕ → List ℕ
  behind_action T.Nothing ps = others ps
  behind_action (T.Declare n) ps = others ps
  behind_action (T.Sequence ss) ps = behind_actions ss (others ps)
  behind_action (T.Give target v) ps = behind_given v (others ps)
  behind_action (T.Store g i e) ps = behind e (behind i (others ps))
  behind_action (T.Update g i o e) ps = behind e (behind i (others (others ps)))
  behind_action (T.If c s t) ps = behind_action t (behind_action s (behind c (others ps)))
  behind_action (T.Loop c body last) ps = behind_action last (behind_action body (behind c (others ps)))
  behind_action T.Break ps = others ps
  behind_action T.Continue ps = others ps
  behind_action T.Leave ps = others ps

  pub behind_actions : ActionsTree → List ℕ → List ℕ
  behind_actions T.Done ps = ps
  behind_actions (T.First s rest) ps = behind_actions rest (behind_action s ps)
