-- A function of Cminor follows the one of C that it was made of.
use Rattle.std.proofs.Common.{◌≡◌, ℕ, zero, suc, ◌+◌, ◌-◌, ◌==◌, ◌<◌, ◌≤◌, Bool, true, false, cond, List, [], ◌∷◌, ◌++◌, length, map, Option, Some, None, refl, sym, ap, ◌∙◌, subst, inl, inr, arith}
use Rattle.std.specs.Prelude.{replicate, slice_get, slice_index_or, max}
use Rattle.std.proofs.lemmas.Bool.{eqb-true}
use Rattle.std.proofs.lemmas.List.{length-append, length-map, length-replicate}
use Rattle.c_program.specs.declared.action.Target.TheVariants.{Nowhere, Local, Global, Caller}
use Rattle.c_program.specs.declared.function.Ending.{Ending}
use Rattle.c_program.specs.declared.function.Ending.TheVariants as K
use Rattle.c_program.specs.Trees.{TermTree, GivenTree, ActionTree, ActionsTree}
use Rattle.c_program.specs.Trees as T
use Rattle.c_program.specs.State as S
use Rattle.c_program.specs.Meaning as C
use Rattle.cminor_syntax.specs.Trees.{StatementsTree, Done, First}
use Rattle.cminor_syntax.specs.State as V
use Rattle.cminor_syntax.specs.Meaning as M
use Rattle.cminor_lowering.specs.Actions.{low_actions}
use Rattle.cminor_lowering.specs.Programs.{is_return, ends_with_return, low_ending, followed_by, spare_of, low_body, low_function, low_named}
use Rattle.cminor_lowering.proofs.Sees.{Shares, Sees, Holds}
use Rattle.cminor_lowering.proofs.Follows.{Follows, FollowsCall}
use Rattle.cminor_lowering.proofs.Pieces.{goes_on_then, exec_sequence}
use Rattle.cminor_lowering.proofs.Statements.{LowerFollows, actions_follow}

-- ---- a body that ends with the `return` of a value does not reach its end

module _ (lower : C.Level) where
  arrives_leaves : (w : ℕ) (s u : S.State) → C.arrives Caller w s ≡ C.Falls u → ⊥
  arrives_leaves w s u e = cc

  yields_leaves : (x : Option ℕ) (s u : S.State) → C.yields Caller s x ≡ C.Falls u → ⊥
  yields_leaves None s u e = cc
  yields_leaves (Some w) s u e = cc

  puts_leaves : (x : Option ℕ) (s u : S.State) → C.puts Caller s x ≡ C.Falls u → ⊥
  puts_leaves None s u e = cc
  puts_leaves (Some w) s u e = cc

  back_leaves : (locals : List (Option ℕ)) (o : C.Outcome) (u : S.State) → C.comes_back Caller locals o ≡ C.Falls u → ⊥
  back_leaves locals (C.Falls s) u e = cc
  back_leaves locals (C.Breaks s) u e = cc
  back_leaves locals (C.Continues s) u e = cc
  back_leaves locals (C.Returns None s) u e = cc
  back_leaves locals (C.Returns (Some w) s) u e = cc
  back_leaves locals (C.RunsOut printed) u e = cc
  back_leaves locals (C.Fails printed) u e = cc

  calls_leave : (f : ℕ) (x : Option (List ℕ)) (s u : S.State) → C.calls lower f Caller s x ≡ C.Falls u → ⊥
  calls_leave f None s u e = cc
  calls_leave f (Some ws) s u e = back_leaves s.locals (lower (C.Calls f ws) s) u e

  gives_leave : (v : GivenTree) (s u : S.State) → C.gives lower Caller v s ≡ C.Falls u → ⊥
  gives_leave (T.Plain e) s u q = yields_leaves (S.word e s) s u q
  gives_leave (T.Called f es) s u q = calls_leave f (S.words es s) s u q
  gives_leave (T.Put e) s u q = puts_leaves (S.word e s) s u q

  return_leaves : (a : ActionTree) (s u : S.State) → is_return a ≡ true → C.exec lower a s ≡ C.Falls u → ⊥
  return_leaves (T.Give Caller v) s u r e = gives_leave v s u e
  return_leaves T.Nothing s u r e = absurd cc
  return_leaves (T.Declare n) s u r e = absurd cc
  return_leaves (T.Sequence ss) s u r e = absurd cc
  return_leaves (T.Give Nowhere v) s u r e = absurd cc
  return_leaves (T.Give (Local n) v) s u r e = absurd cc
  return_leaves (T.Give (Global g) v) s u r e = absurd cc
  return_leaves (T.Store g i e') s u r e = absurd cc
  return_leaves (T.Update g i o e') s u r e = absurd cc
  return_leaves (T.If c a b) s u r e = absurd cc
  return_leaves (T.Loop c a b) s u r e = absurd cc
  return_leaves T.Break s u r e = absurd cc
  return_leaves T.Continue s u r e = absurd cc
  return_leaves T.Leave s u r e = absurd cc

  goes_on_leaves : (next : S.State → C.Outcome) (o : C.Outcome) (u : S.State) → ((v : S.State) → o ≡ C.Falls v → next v ≡ C.Falls u → ⊥) → C.goes_on next o ≡ C.Falls u → ⊥
  goes_on_leaves next (C.Falls s) u leaves e = leaves s refl e
  goes_on_leaves next (C.Breaks s) u leaves e = cc
  goes_on_leaves next (C.Continues s) u leaves e = cc
  goes_on_leaves next (C.Returns w s) u leaves e = cc
  goes_on_leaves next (C.RunsOut printed) u leaves e = cc
  goes_on_leaves next (C.Fails printed) u leaves e = cc

  pub body_leaves : (ss : ActionsTree) (s u : S.State) → ends_with_return ss ≡ true → C.exec_all lower ss s ≡ C.Falls u → ⊥
  body_leaves T.Done s u r e = absurd cc
  body_leaves (T.First a T.Done) s u r e = goes_on_leaves (C.exec_all lower T.Done) (C.exec lower a s) u (λ v f g. return_leaves a s v r f) e
  body_leaves (T.First a (T.First b rest)) s u r e =
      goes_on_leaves (C.exec_all lower (T.First b rest)) (C.exec lower a s) u (λ v f g. body_leaves (T.First b rest) v u r g) e

-- ---- statements, and others behind them

falls_on : (o : M.Outcome) → o ≡ M.goes_on (λ t. M.Falls t) o
falls_on (M.Falls t) = refl
falls_on (M.Exits n t) = refl
falls_on (M.Returns w t) = refl
falls_on (M.RunsOut printed) = refl
falls_on (M.Fails printed) = refl

exec_followed : (lower : M.Level) (ss last : StatementsTree) (t : V.State) → M.exec_all lower (followed_by ss last) t ≡ M.goes_on (M.exec_all lower last) (M.exec_all lower ss t)
exec_followed lower Done last t = refl
exec_followed lower (First s rest) last t =
    goes_on_then (M.exec_all lower (followed_by rest last)) (M.exec_all lower last) (M.exec_all lower rest) (exec_followed lower rest last) (M.exec lower s t)

-- ---- a function

-- where a body's end is reached, its ending is done
reached_follows : (lower : M.Level) (spare : ℕ) (ending : Ending) (returned : Bool) (s : S.State) (t : V.State) → (returned ≡ true → ⊥) → Sees spare s t →
    FollowsCall (C.reaches ending s) (M.exec_all lower (low_ending ending returned) t)
reached_follows lower spare K.Returns returned s t not sees = (t, inl refl, sees.shares)
reached_follows lower spare K.ReturnsZero true s t not sees = absurd (not refl)
reached_follows lower spare K.ReturnsZero false s t not sees = (t, refl, sees.shares)
reached_follows lower spare K.GoesWrong returned s t not sees = tt

body_ends : (lower : M.Level) (spare : ℕ) (ending : Ending) (returned : Bool) (o : C.Outcome) (m : M.Outcome) → ((u : S.State) → returned ≡ true → o ≡ C.Falls u → ⊥) → Follows spare o m →
    FollowsCall (C.ends ending o) (M.goes_on (M.exec_all lower (low_ending ending returned)) m)
body_ends lower spare ending returned (C.Falls s) m leaves f =
    subst (λ x. FollowsCall (C.reaches ending s) (M.goes_on (M.exec_all lower (low_ending ending returned)) x)) (sym f.1)
    (reached_follows lower spare ending returned s f.0 (λ r. leaves s r refl) f.2)
body_ends lower spare ending returned (C.Breaks s) m leaves f = tt
body_ends lower spare ending returned (C.Continues s) m leaves f = tt
body_ends lower spare ending returned (C.Returns None s) m leaves f = (f.0, inr (ap (M.goes_on (M.exec_all lower (low_ending ending returned))) f.1), f.2)
body_ends lower spare ending returned (C.Returns (Some w) s) m leaves f = (f.0, ap (M.goes_on (M.exec_all lower (low_ending ending returned))) f.1, f.2)
body_ends lower spare ending returned (C.RunsOut printed) m leaves f = ap (M.goes_on (M.exec_all lower (low_ending ending returned))) f
body_ends lower spare ending returned (C.Fails printed) m leaves f = tt

nothing_held : (n i w : ℕ) → slice_index_or (replicate n None) i None ≡ Some w → ⊥
nothing_held zero i w e = cc
nothing_held (suc n) zero w e = cc
nothing_held (suc n) (suc i) w e = nothing_held n i w e

arguments_hold : (ws : List ℕ) (a b : ℕ) → Holds (map Some ws ++ replicate a None) (map Some ws ++ replicate b None)
arguments_hold [] a b i w e = absurd (nothing_held a i w e)
arguments_hold (x ∷ ws) a b zero w e = e
arguments_hold (x ∷ ws) a b (suc i) w e = arguments_hold ws a b i w e

abbrev undefined : Option ℕ
undefined = None

begun_length : (ws : List ℕ) (n : ℕ) → length (map Some ws ++ replicate n undefined) ≡ length ws + n
begun_length ws n = length-append (map Some ws) (replicate n undefined) ∙ (λ k. length-map ws Some k + length-replicate n undefined k)

begins_sees : (f : T.FunctionTree) (ws : List ℕ) (s : S.State) (t : V.State) → length ws ≡ f.parameters → Shares s t → Sees (spare_of f) (C.begins f ws s) (M.begins (low_function f) (map Some ws) t)
begins_sees f ws s t count shares = record {
  holds = arguments_hold ws (f.locals - f.parameters) (suc (spare_of f) - f.parameters);
  below = rw (begun_length ws (f.locals - f.parameters), count) (below f.parameters f.locals);
  space = rw (begun_length ws (suc (spare_of f) - f.parameters), count) (space f.parameters f.locals);
  shares = record { globals = shares.globals; output = shares.output };
}
  where
    below : (p l : ℕ) → p + (l - p) ≤ max p l
    below p l = omega arith

    space : (p l : ℕ) → max p l < p + (suc (max p l) - p)
    space p l = omega arith

pub function_follows : (lower : C.Level) (lower' : M.Level) → LowerFollows lower lower' → (fs : List T.FunctionTree) (n : ℕ) (ws : List ℕ) (s : S.State) (t : V.State) → Shares s t →
    FollowsCall (C.enters lower (slice_get fs n) ws s) (M.enters lower' (slice_get (map low_named fs) n) (map Some ws) t)
function_follows lower lower' follows fs n ws s t shares = at fs n
  where
    entered : (f : T.FunctionTree) (z : Bool) → (length ws == f.parameters) ≡ z →
        FollowsCall (cond z (C.ends f.ending (C.exec_all lower f.body (C.begins f ws s))) (C.Fails s.output)) (cond z (M.exec lower' (low_body f) (M.begins (low_function f) (map Some ws) t)) (M.Fails t.output))
    entered f false p = tt
    entered f true p =
        let sees = begins_sees f ws s t (eqb-true (length ws) f.parameters p) shares in
        let spare = spare_of f in
        let o = C.exec_all lower f.body (C.begins f ws s) in
        let m = M.exec_all lower' (low_actions spare f.body) (M.begins (low_function f) (map Some ws) t) in
        let last = low_ending f.ending (ends_with_return f.body) in
        let begun = M.begins (low_function f) (map Some ws) t in
        subst (FollowsCall (C.ends f.ending o))
        (sym (exec_sequence lower' (followed_by (low_actions spare f.body) last) begun ∙ exec_followed lower' (low_actions spare f.body) last begun))
        (body_ends lower' spare f.ending (ends_with_return f.body) o m (λ u r e. body_leaves lower f.body (C.begins f ws s) u r e) (actions_follow lower lower' follows spare f.body (C.begins f ws s) (M.begins (low_function f) (map Some ws) t) sees))

    at : (fs : List T.FunctionTree) (n : ℕ) → FollowsCall (C.enters lower (slice_get fs n) ws s) (M.enters lower' (slice_get (map low_named fs) n) (map Some ws) t)
    at [] n = tt
    at (f ∷ fs) zero =
        let same : (length (map Some ws) == f.parameters) ≡ (length ws == f.parameters) = ap (λ k. k == f.parameters) (length-map ws Some) in
        subst (λ z. FollowsCall (C.enters lower (Some f) ws s) (cond z (M.exec lower' (low_body f) (M.begins (low_function f) (map Some ws) t)) (M.Fails t.output))) (sym same)
        (entered f (length ws == f.parameters) refl)
    at (f ∷ fs) (suc n) = at fs n
