-- What a call or `putchar` gives goes to its target in Cminor as in C.
use Rattle.std.proofs.Common.{◌≡◌, ℕ, ◌%◌, List, [], ◌∷◌, ◌++◌, Option, Some, None, refl, sym, ap, ◌∙◌, subst, inl, inr}
use Rattle.std.specs.Prelude.{◌⊎◌}
use Rattle.c_program.specs.declared.action.Target.{Target}
use Rattle.c_program.specs.declared.action.Target.TheVariants.{Nowhere, Local, Global, Caller}
use Rattle.c_program.specs.Trees.{TermTree}
use Rattle.c_program.specs.State as S
use Rattle.c_program.specs.Meaning as C
use Rattle.cminor_syntax.specs.Trees.{StatementTree, Number, Variable, Store, Return, Done, First}
use Rattle.cminor_syntax.specs.State as V
use Rattle.cminor_syntax.specs.Meaning as M
use Rattle.cminor_lowering.specs.Terms.{low_term}
use Rattle.cminor_lowering.specs.Actions.{low_plain, low_given_by}
use Rattle.cminor_lowering.proofs.Sees.{Sees, sees_set, sees_spare, sees_with, spare_held}
use Rattle.cminor_lowering.proofs.InitialWords.{value_keeps, word_keeps}
use Rattle.cminor_lowering.proofs.Follows.{Follows, FollowsCall, closed_follows}

-- a cell of a global becomes a word
pub stores_follow : (spare g i w : ℕ) (s : S.State) (t : V.State) → Sees spare s t → Follows spare (C.stores g s (Some i) (Some w)) (M.stores g t (Some i) (Some w))
stores_follow spare g i w s t sees =
    subst (λ globals. Follows spare (C.stores g s (Some i) (Some w)) (M.with_globals t (V.put_cell globals g i w))) (sym sees.shares.globals) (at (V.put_cell s.globals g i w))
  where
    at : (globals : Option (List (List ℕ))) → Follows spare (C.with_globals s globals) (M.with_globals t globals)
    at None = tt
    at (Some globals) =
        (record t { globals = globals }, refl, record { holds = sees.holds; below = sees.below; space = sees.space; shares = record { globals = refl; output = sees.shares.output } })

-- the caller's words, with these globals and this output
abbrev pub base : V.State → List (List ℕ) → List ℕ → V.State
base t globals output = record { variables = t.variables; globals = globals; output = output }

abbrev pub base_of : S.State → List (List ℕ) → List ℕ → S.State
base_of s globals output = record { locals = s.locals; globals = globals; output = output }

module _ (spare : ℕ) (lower : M.Level) (s : S.State) (t : V.State) (sees : Sees spare s t) (statement : Option ℕ → StatementTree) where
  -- the statement gives a word, and leaves these globals and this output
  abbrev pub Gives : ℕ → List (List ℕ) → List ℕ → Type 0
  Gives w globals output = (v : Option ℕ) → M.exec lower (statement v) t ≡ M.Falls (V.given v (Some w) (base t globals output))

  -- the word is in the spare variable, and another statement goes on with it
  abbrev then : StatementTree → M.Outcome → M.Outcome
  then last o = M.goes_on (M.exec_all lower (First last Done)) o

  given_follows : (target : Target) (w : ℕ) (globals : List (List ℕ)) (output : List ℕ) → Gives w globals output →
      Follows spare (C.arrives target w (base_of s globals output)) (M.exec lower (low_given_by spare target statement) t)
  given_follows Nowhere w globals output gives = (base t globals output, gives None, sees_with spare s t globals output sees)
  given_follows (Local n) w globals output gives =
      (V.given (Some n) (Some w) (base t globals output), gives (Some n), sees_set spare n w (base_of s globals output) (base t globals output) (sees_with spare s t globals output sees))
  given_follows (Global g) w globals output gives =
      let now = V.given (Some spare) (Some w) (base t globals output) in
      let with = sees_spare spare w (base_of s globals output) (base t globals output) (sees_with spare s t globals output sees) in
      let held = spare_held spare w (base t globals output) sees.space in
      let stored = subst (λ x. Follows spare (C.stores g (base_of s globals output) (Some 0) (Some w)) (M.stores g now (Some 0) x)) (sym held) (stores_follow spare g 0 w (base_of s globals output) now with) in
      subst (λ o. Follows spare (C.stores g (base_of s globals output) (Some 0) (Some w)) (then (Store g (Number 0) (Variable spare)) o)) (sym (gives (Some spare)))
      (closed_follows spare lower (C.stores g (base_of s globals output) (Some 0) (Some w)) (M.stores g now (Some 0) (V.held spare now)) stored)
  given_follows Caller w globals output gives =
      let now = V.given (Some spare) (Some w) (base t globals output) in
      let held = spare_held spare w (base t globals output) sees.space in
      (now, ap (then (Return (Some (Variable spare)))) (gives (Some spare)) ∙ ap (λ x. M.goes_on (M.exec_all lower Done) (M.returns now x)) held, record { globals = refl; output = refl })

  -- a run that is broken off by the statement
  stopped_follows : (target : Target) (printed : List ℕ) → ((v : Option ℕ) → M.exec lower (statement v) t ≡ M.RunsOut printed) → M.exec lower (low_given_by spare target statement) t ≡ M.RunsOut printed
  stopped_follows Nowhere printed stops = stops None
  stopped_follows (Local n) printed stops = stops (Some n)
  stopped_follows (Global g) printed stops = ap (then (Store g (Number 0) (Variable spare))) (stops (Some spare))
  stopped_follows Caller printed stops = ap (then (Return (Some (Variable spare)))) (stops (Some spare))

  -- a callee that returns no value
  nothing_follows : (target : Target) (u : S.State) → M.exec lower (statement None) t ≡ M.Falls (base t u.globals u.output) →
      Follows spare (C.hands_back target None (C.resumed s.locals u)) (M.exec lower (low_given_by spare target statement) t)
  nothing_follows Nowhere u gives = (base t u.globals u.output, gives, sees_with spare s t u.globals u.output sees)
  nothing_follows (Local n) u gives = tt
  nothing_follows (Global g) u gives = tt
  nothing_follows Caller u gives = tt

  -- what comes back from a callee
  pub back_follows : (target : Target) (o : C.Outcome) (m : M.Outcome) → FollowsCall o m → ((v : Option ℕ) → M.exec lower (statement v) t ≡ M.comes_back v t m) →
      Follows spare (C.comes_back target s.locals o) (M.exec lower (low_given_by spare target statement) t)
  back_follows target (C.Falls u) m f does = tt
  back_follows target (C.Breaks u) m f does = tt
  back_follows target (C.Continues u) m f does = tt
  back_follows target (C.Returns None u) m f does = nothing_follows target u (does None ∙ ended f.1)
    where
      same : base t f.0.globals f.0.output ≡ base t u.globals u.output
      same = λ k. base t (f.2.globals k) (f.2.output k)

      ended : (m ≡ M.Falls f.0) ⊎ (m ≡ M.Returns None f.0) → M.comes_back None t m ≡ M.Falls (base t u.globals u.output)
      ended (inl e) = ap (M.comes_back None t) e ∙ ap (λ x. M.Falls x) same
      ended (inr e) = ap (M.comes_back None t) e ∙ ap (λ x. M.Falls x) same
  back_follows target (C.Returns (Some w) u) m f does =
      given_follows target w u.globals u.output
      (λ v. does v ∙ ap (M.comes_back v t) f.1 ∙ (λ k. M.Falls (V.given v (Some w) (base t (f.2.globals k) (f.2.output k)))))
  back_follows target (C.RunsOut printed) m f does = stopped_follows target printed (λ v. does v ∙ ap (M.comes_back v t) f)
  back_follows target (C.Fails printed) m f does = tt

  -- what `putchar` gives
  pub put_follows : (target : Target) (w : ℕ) → ((v : Option ℕ) → M.exec lower (statement v) t ≡ M.puts v t (Some w)) →
      Follows spare (C.puts target s (Some w)) (M.exec lower (low_given_by spare target statement) t)
  put_follows target w does =
      given_follows target (w % 256) s.globals (s.output ++ w % 256 ∷ [])
      (λ v. does v ∙ (λ k. M.Falls (V.given v (Some (w % 256)) (base t (sees.shares.globals k) (sees.shares.output k ++ w % 256 ∷ [])))))

-- an expression's word goes to its target
pub plain_follows : (spare : ℕ) (lower : M.Level) (s : S.State) (t : V.State) → Sees spare s t → (target : Target) (e : TermTree) →
    Follows spare (C.yields target s (S.word e s)) (M.exec lower (low_plain target (low_term e)) t)
plain_follows spare lower s t sees target e = at target (S.word e s) refl
  where
    at : (target : Target) (x : Option ℕ) → S.word e s ≡ x → Follows spare (C.yields target s x) (M.exec lower (low_plain target (low_term e)) t)
    at target None q = tt
    at Nowhere (Some w) q = (t, refl, sees)
    at (Local n) (Some w) q =
        (V.given (Some n) (Some w) t, ap (M.assigns n t) (value_keeps spare s t sees e w q), sees_set spare n w s t sees)
    at (Global g) (Some w) q = subst (λ x. Follows spare (C.stores g s (Some 0) (Some w)) (M.stores g t (Some 0) x)) (sym (word_keeps spare s t sees e w q)) (stores_follow spare g 0 w s t sees)
    at Caller (Some w) q = (t, ap (M.returns t) (word_keeps spare s t sees e w q), sees.shares)
