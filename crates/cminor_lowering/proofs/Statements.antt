-- Each statement of Cminor follows the action of C that it was made of, where what runs with one bound less does.
use Rattle.std.proofs.Common.{◌≡◌, ℕ, ◌==◌, Bool, true, false, cond, List, map, Option, Some, None, refl, sym, ap, subst}
use Rattle.c_program.specs.declared.action.Target.{Target}
use Rattle.c_program.specs.Trees.{TermTree, GivenTree, ActionTree, ActionsTree, FunctionTree}
use Rattle.c_program.specs.Trees as T
use Rattle.c_program.specs.State as S
use Rattle.c_program.specs.Meaning as C
use Rattle.cminor_syntax.specs.Trees.{StatementsTree, Call, Put, Loop, Block, Done, First}
use Rattle.cminor_syntax.specs.State as V
use Rattle.cminor_syntax.specs.Evaluation as E
use Rattle.cminor_syntax.specs.Meaning as M
use Rattle.cminor_lowering.specs.Terms.{low_term}
use Rattle.cminor_lowering.specs.Actions.{turn, low_given, low_action, low_actions}
use Rattle.cminor_lowering.proofs.Sees.{Shares, Sees, sees_lost}
use Rattle.cminor_lowering.proofs.InitialWords.{word_keeps, words_keep}
use Rattle.cminor_lowering.proofs.Follows.{Follows, FollowsLoop, FollowsCall, follows_goes_on, follows_loop, body_follows}
use Rattle.cminor_lowering.proofs.Pieces.{exec_sequence}
use Rattle.cminor_lowering.proofs.Given.{stores_follow, back_follows, put_follows, plain_follows}
use Rattle.cminor_lowering.proofs.Updates.{update_follows}

-- the loops and the calls of Cminor follow those of C, one bound less
pub record LowerFollows (lower : C.Level) (lower' : M.Level) : Type 0 where
  pub turns : (spare : ℕ) (c : TermTree) (body behind : ActionTree) (s : S.State) (t : V.State) → Sees spare s t →
      FollowsLoop spare (lower (C.Turns c body behind) s) (M.exec lower' (Loop (turn (low_term c) (low_action spare body) (low_action spare behind))) t)
  pub calls : (f : ℕ) (ws : List ℕ) (s : S.State) (t : V.State) → Shares s t → FollowsCall (lower (C.Calls f ws) s) (lower' (M.Calls f (map Some ws)) t)

-- one of two, where the same is chosen in both
branches_follow : (spare w : ℕ) (s : S.State) (t : V.State) (a b : C.Outcome) (m n : M.Outcome) → Follows spare a m → Follows spare b n →
    Follows spare (C.branches s (Some w) a b) (M.branches t (Some w) m n)
branches_follow spare w s t a b m n f g = at (w == 0)
  where
    at : (z : Bool) → Follows spare (cond z b a) (cond z n m)
    at true = g
    at false = f

module _ (lower : C.Level) (lower' : M.Level) (follows : LowerFollows lower lower') (spare : ℕ) where
  call_follows : (target : Target) (f : ℕ) (es : List TermTree) (s : S.State) (t : V.State) → Sees spare s t → (x : Option (List ℕ)) → S.words es s ≡ x →
      Follows spare (C.calls lower f target s x) (M.exec lower' (low_given spare target (T.Called f es)) t)
  call_follows target f es s t sees None q = tt
  call_follows target f es s t sees (Some ws) q =
      back_follows spare lower' s t sees (λ v. Call f v (map low_term es)) target (lower (C.Calls f ws) s) (lower' (M.Calls f (map Some ws)) t) (follows.calls f ws s t sees.shares)
      (λ v. ap (M.calls lower' f v t) (words_keep spare s t sees es ws q))

  putchar_follows : (target : Target) (e : TermTree) (s : S.State) (t : V.State) → Sees spare s t → (x : Option ℕ) → S.word e s ≡ x →
      Follows spare (C.puts target s x) (M.exec lower' (low_given spare target (T.Put e)) t)
  putchar_follows target e s t sees None q = tt
  putchar_follows target e s t sees (Some w) q =
      put_follows spare lower' s t sees (λ v. Put v (low_term e)) target w (λ v. ap (M.puts v t) (word_keeps spare s t sees e w q))

  gives_follow : (target : Target) (v : GivenTree) (s : S.State) (t : V.State) → Sees spare s t → Follows spare (C.gives lower target v s) (M.exec lower' (low_given spare target v) t)
  gives_follow target (T.Plain e) s t sees = plain_follows spare lower' s t sees target e
  gives_follow target (T.Called f es) s t sees = call_follows target f es s t sees (S.words es s) refl
  gives_follow target (T.Put e) s t sees = putchar_follows target e s t sees (S.word e s) refl

  store_follows : (g : ℕ) (i e : TermTree) (s : S.State) (t : V.State) → Sees spare s t → (x y : Option ℕ) → S.word i s ≡ x → S.word e s ≡ y →
      Follows spare (C.stores g s x y) (M.stores g t (E.word (low_term i) t) (E.word (low_term e) t))
  store_follows g i e s t sees None y p q = tt
  store_follows g i e s t sees (Some a) None p q = tt
  store_follows g i e s t sees (Some a) (Some b) p q = rw (word_keeps spare s t sees i a p, word_keeps spare s t sees e b q) (stores_follow spare g a b s t sees)

  choice_follows : (c : TermTree) (s : S.State) (t : V.State) (a b : C.Outcome) (m n : M.Outcome) → Sees spare s t → Follows spare a m → Follows spare b n → (x : Option ℕ) → S.word c s ≡ x →
      Follows spare (C.branches s x a b) (M.branches t (E.word (low_term c) t) m n)
  choice_follows c s t a b m n sees f g None q = tt
  choice_follows c s t a b m n sees f g (Some w) q = rw (word_keeps spare s t sees c w q) (branches_follow spare w s t a b m n f g)

  mutual
    pub action_follows : (a : ActionTree) (s : S.State) (t : V.State) → Sees spare s t → Follows spare (C.exec lower a s) (M.exec lower' (low_action spare a) t)
    action_follows T.Nothing s t sees = (t, refl, sees)
    action_follows (T.Declare n) s t sees = (t, refl, sees_lost spare n s t sees)
    action_follows (T.Sequence ss) s t sees =
        subst (Follows spare (C.exec_all lower ss s)) (sym (exec_sequence lower' (low_actions spare ss) t)) (actions_follow ss s t sees)
    action_follows (T.Give target v) s t sees = gives_follow target v s t sees
    action_follows (T.Store g i e) s t sees = store_follows g i e s t sees (S.word i s) (S.word e s) refl refl
    action_follows (T.Update g i o e) s t sees = update_follows spare lower' s t sees g i o e
    action_follows (T.If c a b) s t sees =
        choice_follows c s t (C.exec lower a s) (C.exec lower b s) (M.exec lower' (low_action spare a) t) (M.exec lower' (low_action spare b) t) sees (action_follows a s t sees) (action_follows b s t sees) (S.word c s) refl
    action_follows (T.Loop c body behind) s t sees =
        follows_loop spare (lower (C.Turns c body behind) s) (M.exec lower' (Loop (turn (low_term c) (low_action spare body) (low_action spare behind))) t) (follows.turns spare c body behind s t sees)
    action_follows T.Break s t sees = (t, refl, sees)
    action_follows T.Continue s t sees = (t, refl, sees)
    action_follows T.Leave s t sees = (t, refl, sees.shares)

    pub actions_follow : (ss : ActionsTree) (s : S.State) (t : V.State) → Sees spare s t → Follows spare (C.exec_all lower ss s) (M.exec_all lower' (low_actions spare ss) t)
    actions_follow T.Done s t sees = (t, refl, sees)
    actions_follow (T.First a rest) s t sees =
        follows_goes_on spare (C.exec_all lower rest) (M.exec_all lower' (low_actions spare rest)) (C.exec lower a s) (M.exec lower' (low_action spare a) t)
        (λ u v. actions_follow rest u v) (action_follows a s t sees)

  -- a loop from its head on, where `loop` is the next turn's
  pub turns_follow : (c : TermTree) (body behind : ActionTree) (s : S.State) (t : V.State) → Sees spare s t → (loop : V.State → M.Outcome) →
      ((u : S.State) (v : V.State) → Sees spare u v → FollowsLoop spare (lower (C.Turns c body behind) u) (loop v)) →
      FollowsLoop spare (C.turns lower c body behind s) (M.goes_on loop (M.exec lower' (turn (low_term c) (low_action spare body) (low_action spare behind)) t))
  turns_follow c body behind s t sees loop again = at (S.word c s) refl
    where
      rest : StatementsTree
      rest = First (Block (low_action spare body)) (First (low_action spare behind) Done)

      decided : (w : ℕ) (z : Bool) →
          FollowsLoop spare (cond z (C.Falls s) (C.after_body lower c body behind (C.exec lower body s))) (M.goes_on loop (M.goes_on (M.exec_all lower' rest) (cond z (M.Exits 0 t) (M.Falls t))))
      decided w true = (t, refl, sees)
      decided w false =
          body_follows spare lower c body behind loop again (M.exec lower' (low_action spare behind)) (λ u v. action_follows behind u v)
          (C.exec lower body s) (M.exec lower' (low_action spare body) t) (action_follows body s t sees)

      at : (x : Option ℕ) → S.word c s ≡ x →
          FollowsLoop spare (C.branches s x (C.after_body lower c body behind (C.exec lower body s)) (C.Falls s)) (M.goes_on loop (M.goes_on (M.exec_all lower' rest) (M.branches t (E.word (low_term c) t) (M.Falls t) (M.Exits 0 t))))
      at None q = tt
      at (Some w) q = rw (word_keeps spare s t sees c w q) (decided w (w == 0))
