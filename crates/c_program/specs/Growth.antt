-- From one bound to the next the output of a program only grows, and an end or a fault stays.
use Rattle.std.proofs.Common.{◌≡◌, ℕ, zero, suc, ◌+◌, ◌==◌, Bool, true, false, cond, List, [], ◌∷◌, ◌++◌, length, Option, Some, None, refl, sym, ap, subst, arith}
use Rattle.std.specs.Prelude.{slice_get, ◌%◌}
use Rattle.lang_base.specs.Behaviour.{IsBeginningOf, GoesOnTo, IsRun}
use Rattle.lang_base.proofs.Beginnings.{IsBeginningOf-refl, IsBeginningOf-trans}
use Rattle.ints.specs.declared.operators.Op.{Op}
use Rattle.c_program.specs.declared.action.Target.{Target}
use Rattle.c_program.specs.declared.action.Target.TheVariants.{Nowhere, Local, Global, Caller}
use Rattle.c_program.specs.declared.function.Ending.{Ending}
use Rattle.c_program.specs.declared.function.Ending.TheVariants as E
use Rattle.c_program.specs.Trees.{TermTree, GivenTree, ActionTree, ActionsTree, FunctionTree, ProgramTree, Plain, Called, Put, Nothing, Declare, Sequence, Give, Store, Update, If, Loop, Break, Continue, Leave, Done, First}
use Rattle.c_program.specs.Values.{cell_of, on_two}
use Rattle.c_program.specs.State.{State, word, words, put_cell}
use Rattle.c_program.specs.Meaning.{Outcome, Falls, Breaks, Continues, Returns, RunsOut, Fails, Work, Turns, Calls, Level, goes_on, with_globals, stores, updates, arrives, yields, puts, branches, hands_back, resumed, comes_back, calls, gives, exec, exec_all, turns_again, after_body, turns, reaches, ends, begins, enters, level, shown, start, crun}

-- what is printed at an outcome
abbrev pub output_of : Outcome → List ℕ
output_of (Falls s) = s.output
output_of (Breaks s) = s.output
output_of (Continues s) = s.output
output_of (Returns w s) = s.output
output_of (RunsOut printed) = printed
output_of (Fails printed) = printed

-- at the outcome at least this is printed
abbrev pub PrintsOn : List ℕ → Outcome → Type 0
PrintsOn printed o = IsBeginningOf printed (output_of o)

-- what runs at a level only adds to the output
abbrev pub Adds : Level → Type 0
Adds lower = (work : Work) (s : State) → PrintsOn s.output (lower work s)

-- ---- the output only grows within a bound

pub prints-goes_on : (printed : List ℕ) (next : State → Outcome) (o : Outcome) → ((t : State) → PrintsOn t.output (next t)) → PrintsOn printed o → PrintsOn printed (goes_on next o)
prints-goes_on printed next (Falls s) then so_far = IsBeginningOf-trans _ _ _ so_far (then s)
prints-goes_on printed next (Breaks s) then so_far = so_far
prints-goes_on printed next (Continues s) then so_far = so_far
prints-goes_on printed next (Returns w s) then so_far = so_far
prints-goes_on printed next (RunsOut o) then so_far = so_far
prints-goes_on printed next (Fails o) then so_far = so_far

prints-with_globals : (s : State) (globals : Option (List (List ℕ))) → PrintsOn s.output (with_globals s globals)
prints-with_globals s None = IsBeginningOf-refl s.output
prints-with_globals s (Some globals) = IsBeginningOf-refl s.output

prints-stores : (g : ℕ) (s : State) (i w : Option ℕ) → PrintsOn s.output (stores g s i w)
prints-stores g s None w = IsBeginningOf-refl s.output
prints-stores g s (Some i) None = IsBeginningOf-refl s.output
prints-stores g s (Some i) (Some w) = prints-with_globals s (put_cell s.globals g i w)

prints-updates : (g : ℕ) (o : Op) (s : State) (i w : Option ℕ) → PrintsOn s.output (updates g o s i w)
prints-updates g o s None w = IsBeginningOf-refl s.output
prints-updates g o s (Some i) w = prints-stores g s (Some i) (on_two o (cell_of s.globals g i) w)

pub prints-arrives : (target : Target) (w : ℕ) (s : State) → PrintsOn s.output (arrives target w s)
prints-arrives Nowhere w s = IsBeginningOf-refl s.output
prints-arrives (Local n) w s = IsBeginningOf-refl s.output
prints-arrives (Global g) w s = prints-stores g s (Some 0) (Some w)
prints-arrives Caller w s = IsBeginningOf-refl s.output

prints-yields : (target : Target) (s : State) (w : Option ℕ) → PrintsOn s.output (yields target s w)
prints-yields target s None = IsBeginningOf-refl s.output
prints-yields target s (Some w) = prints-arrives target w s

prints-puts : (target : Target) (s : State) (w : Option ℕ) → PrintsOn s.output (puts target s w)
prints-puts target s None = IsBeginningOf-refl s.output
prints-puts target s (Some w) =
    let after = record s { output = s.output ++ w % 256 ∷ [] } in
    IsBeginningOf-trans s.output after.output _ (w % 256 ∷ [], refl) (prints-arrives target (w % 256) after)

prints-if : (printed : List ℕ) (b : Bool) (o p : Outcome) → PrintsOn printed o → PrintsOn printed p → PrintsOn printed (cond b o p)
prints-if printed true o p h k = h
prints-if printed false o p h k = k

prints-branches : (s : State) (w : Option ℕ) (a b : Outcome) → PrintsOn s.output a → PrintsOn s.output b → PrintsOn s.output (branches s w a b)
prints-branches s None a b h k = IsBeginningOf-refl s.output
prints-branches s (Some w) a b h k = prints-if s.output (w == 0) b a k h

prints-hands_back : (target : Target) (w : Option ℕ) (s : State) → PrintsOn s.output (hands_back target w s)
prints-hands_back Nowhere None s = IsBeginningOf-refl s.output
prints-hands_back (Local n) None s = IsBeginningOf-refl s.output
prints-hands_back (Global g) None s = IsBeginningOf-refl s.output
prints-hands_back Caller None s = IsBeginningOf-refl s.output
prints-hands_back Nowhere (Some w) s = prints-arrives Nowhere w s
prints-hands_back (Local n) (Some w) s = prints-arrives (Local n) w s
prints-hands_back (Global g) (Some w) s = prints-arrives (Global g) w s
prints-hands_back Caller (Some w) s = prints-arrives Caller w s

pub prints-comes_back : (printed : List ℕ) (target : Target) (locals : List (Option ℕ)) (o : Outcome) → PrintsOn printed o → PrintsOn printed (comes_back target locals o)
prints-comes_back printed target locals (Falls s) h = h
prints-comes_back printed target locals (Breaks s) h = h
prints-comes_back printed target locals (Continues s) h = h
prints-comes_back printed target locals (Returns w s) h = IsBeginningOf-trans _ _ _ h (prints-hands_back target w (resumed locals s))
prints-comes_back printed target locals (RunsOut o) h = h
prints-comes_back printed target locals (Fails o) h = h

prints-calls : (lower : Level) → Adds lower → (f : ℕ) (target : Target) (s : State) (arguments : Option (List ℕ)) → PrintsOn s.output (calls lower f target s arguments)
prints-calls lower adds f target s None = IsBeginningOf-refl s.output
prints-calls lower adds f target s (Some arguments) = prints-comes_back s.output target s.locals (lower (Calls f arguments) s) (adds (Calls f arguments) s)

prints-gives : (lower : Level) → Adds lower → (target : Target) (v : GivenTree) (s : State) → PrintsOn s.output (gives lower target v s)
prints-gives lower adds target (Plain e) s = prints-yields target s (word e s)
prints-gives lower adds target (Called f arguments) s = prints-calls lower adds f target s (words arguments s)
prints-gives lower adds target (Put e) s = prints-puts target s (word e s)

mutual
  pub prints-exec : (lower : Level) → Adds lower → (t : ActionTree) (s : State) → PrintsOn s.output (exec lower t s)
  prints-exec lower adds Nothing s = IsBeginningOf-refl s.output
  prints-exec lower adds (Declare n) s = IsBeginningOf-refl s.output
  prints-exec lower adds (Sequence ss) s = prints-exec_all lower adds ss s
  prints-exec lower adds (Give target v) s = prints-gives lower adds target v s
  prints-exec lower adds (Store g i e) s = prints-stores g s (word i s) (word e s)
  prints-exec lower adds (Update g i o e) s = prints-updates g o s (word i s) (word e s)
  prints-exec lower adds (If c t u) s = prints-branches s (word c s) (exec lower t s) (exec lower u s) (prints-exec lower adds t s) (prints-exec lower adds u s)
  prints-exec lower adds (Loop c body behind) s = adds (Turns c body behind) s
  prints-exec lower adds Break s = IsBeginningOf-refl s.output
  prints-exec lower adds Continue s = IsBeginningOf-refl s.output
  prints-exec lower adds Leave s = IsBeginningOf-refl s.output

  pub prints-exec_all : (lower : Level) → Adds lower → (ts : ActionsTree) (s : State) → PrintsOn s.output (exec_all lower ts s)
  prints-exec_all lower adds Done s = IsBeginningOf-refl s.output
  prints-exec_all lower adds (First t rest) s = prints-goes_on s.output (exec_all lower rest) (exec lower t s) (prints-exec_all lower adds rest) (prints-exec lower adds t s)

pub prints-turns_again : (lower : Level) → Adds lower → (printed : List ℕ) (c : TermTree) (body behind : ActionTree) (o : Outcome) → PrintsOn printed o → PrintsOn printed (turns_again lower c body behind o)
prints-turns_again lower adds printed c body behind (Falls s) h = IsBeginningOf-trans _ _ _ h (adds (Turns c body behind) s)
prints-turns_again lower adds printed c body behind (Breaks s) h = h
prints-turns_again lower adds printed c body behind (Continues s) h = h
prints-turns_again lower adds printed c body behind (Returns w s) h = h
prints-turns_again lower adds printed c body behind (RunsOut o) h = h
prints-turns_again lower adds printed c body behind (Fails o) h = h

-- what is done behind the body, and the next turn
prints-behind : (lower : Level) → Adds lower → (printed : List ℕ) (c : TermTree) (body behind : ActionTree) (s : State) → IsBeginningOf printed s.output → PrintsOn printed (turns_again lower c body behind (exec lower behind s))
prints-behind lower adds printed c body behind s h =
    IsBeginningOf-trans _ _ _ h (prints-turns_again lower adds s.output c body behind (exec lower behind s) (prints-exec lower adds behind s))

pub prints-after_body : (lower : Level) → Adds lower → (printed : List ℕ) (c : TermTree) (body behind : ActionTree) (o : Outcome) → PrintsOn printed o → PrintsOn printed (after_body lower c body behind o)
prints-after_body lower adds printed c body behind (Falls s) h = prints-behind lower adds printed c body behind s h
prints-after_body lower adds printed c body behind (Breaks s) h = h
prints-after_body lower adds printed c body behind (Continues s) h = prints-behind lower adds printed c body behind s h
prints-after_body lower adds printed c body behind (Returns w s) h = h
prints-after_body lower adds printed c body behind (RunsOut o) h = h
prints-after_body lower adds printed c body behind (Fails o) h = h

prints-turns : (lower : Level) → Adds lower → (c : TermTree) (body behind : ActionTree) (s : State) → PrintsOn s.output (turns lower c body behind s)
prints-turns lower adds c body behind s =
    prints-branches s (word c s) (after_body lower c body behind (exec lower body s)) (Falls s)
    (prints-after_body lower adds s.output c body behind (exec lower body s) (prints-exec lower adds body s)) (IsBeginningOf-refl s.output)

prints-reaches : (ending : Ending) (s : State) → PrintsOn s.output (reaches ending s)
prints-reaches E.Returns s = IsBeginningOf-refl s.output
prints-reaches E.ReturnsZero s = IsBeginningOf-refl s.output
prints-reaches E.GoesWrong s = IsBeginningOf-refl s.output

pub prints-ends : (printed : List ℕ) (ending : Ending) (o : Outcome) → PrintsOn printed o → PrintsOn printed (ends ending o)
prints-ends printed ending (Falls s) h = IsBeginningOf-trans _ _ _ h (prints-reaches ending s)
prints-ends printed ending (Breaks s) h = h
prints-ends printed ending (Continues s) h = h
prints-ends printed ending (Returns w s) h = h
prints-ends printed ending (RunsOut o) h = h
prints-ends printed ending (Fails o) h = h

prints-enters : (lower : Level) → Adds lower → (f : Option FunctionTree) (arguments : List ℕ) (s : State) → PrintsOn s.output (enters lower f arguments s)
prints-enters lower adds None arguments s = IsBeginningOf-refl s.output
prints-enters lower adds (Some f) arguments s =
    prints-if s.output (length arguments == f.parameters) _ _
    (prints-ends s.output f.ending (exec_all lower f.body (begins f arguments s)) (prints-exec_all lower adds f.body (begins f arguments s))) (IsBeginningOf-refl s.output)

pub prints-level : (functions : List FunctionTree) (n : ℕ) → Adds (level functions n)
prints-level functions zero work s = IsBeginningOf-refl s.output
prints-level functions (suc n) (Turns c body behind) s = prints-turns (level functions n) (prints-level functions n) c body behind s
prints-level functions (suc n) (Calls f arguments) s = prints-enters (level functions n) (prints-level functions n) (slice_get functions f) arguments s

-- ---- from one bound to the next

-- what an outcome may be at the next bound: one that ran out may go on, and any other stays
abbrev pub IsLater : Outcome → Outcome → Type 0
IsLater (Falls s) later = later ≡ Falls s
IsLater (Breaks s) later = later ≡ Breaks s
IsLater (Continues s) later = later ≡ Continues s
IsLater (Returns w s) later = later ≡ Returns w s
IsLater (RunsOut printed) later = PrintsOn printed later
IsLater (Fails printed) later = later ≡ Fails printed

-- each outcome of the second level is what the first one's may be at the next bound
abbrev pub IsNextLevel : Level → Level → Type 0
IsNextLevel lower upper = (work : Work) (s : State) → IsLater (lower work s) (upper work s)

pub later-same : (o : Outcome) → IsLater o o
later-same (Falls s) = refl
later-same (Breaks s) = refl
later-same (Continues s) = refl
later-same (Returns w s) = refl
later-same (RunsOut printed) = IsBeginningOf-refl printed
later-same (Fails printed) = refl

pub later-goes_on : (next next' : State → Outcome) (o o' : Outcome) → ((t : State) → IsLater (next t) (next' t)) → ((t : State) → PrintsOn t.output (next' t)) → IsLater o o' → IsLater (goes_on next o) (goes_on next' o')
later-goes_on next next' (Falls s) o' then adds e = subst (λ x. IsLater (next s) (goes_on next' x)) (sym e) (then s)
later-goes_on next next' (Breaks s) o' then adds e = ap (goes_on next') e
later-goes_on next next' (Continues s) o' then adds e = ap (goes_on next') e
later-goes_on next next' (Returns w s) o' then adds e = ap (goes_on next') e
later-goes_on next next' (RunsOut printed) o' then adds e = prints-goes_on printed next' o' adds e
later-goes_on next next' (Fails printed) o' then adds e = ap (goes_on next') e

later-if : (b : Bool) (o p o' p' : Outcome) → IsLater o o' → IsLater p p' → IsLater (cond b o p) (cond b o' p')
later-if true o p o' p' h k = h
later-if false o p o' p' h k = k

later-branches : (s : State) (w : Option ℕ) (a b a' b' : Outcome) → IsLater a a' → IsLater b b' → IsLater (branches s w a b) (branches s w a' b')
later-branches s None a b a' b' h k = refl
later-branches s (Some w) a b a' b' h k = later-if (w == 0) b a b' a' k h

later-comes_back : (target : Target) (locals : List (Option ℕ)) (o o' : Outcome) → IsLater o o' → IsLater (comes_back target locals o) (comes_back target locals o')
later-comes_back target locals (Falls s) o' e = ap (comes_back target locals) e
later-comes_back target locals (Breaks s) o' e = ap (comes_back target locals) e
later-comes_back target locals (Continues s) o' e = ap (comes_back target locals) e
later-comes_back target locals (Returns w s) o' e =
    subst (λ x. IsLater (comes_back target locals (Returns w s)) (comes_back target locals x)) (sym e) (later-same (comes_back target locals (Returns w s)))
later-comes_back target locals (RunsOut printed) o' e = prints-comes_back printed target locals o' e
later-comes_back target locals (Fails printed) o' e = ap (comes_back target locals) e

later-calls : (lower upper : Level) → IsNextLevel lower upper → (f : ℕ) (target : Target) (s : State) (arguments : Option (List ℕ)) → IsLater (calls lower f target s arguments) (calls upper f target s arguments)
later-calls lower upper next f target s None = refl
later-calls lower upper next f target s (Some arguments) = later-comes_back target s.locals (lower (Calls f arguments) s) (upper (Calls f arguments) s) (next (Calls f arguments) s)

later-gives : (lower upper : Level) → IsNextLevel lower upper → (target : Target) (v : GivenTree) (s : State) → IsLater (gives lower target v s) (gives upper target v s)
later-gives lower upper next target (Plain e) s = later-same (yields target s (word e s))
later-gives lower upper next target (Called f arguments) s = later-calls lower upper next f target s (words arguments s)
later-gives lower upper next target (Put e) s = later-same (puts target s (word e s))

mutual
  pub later-exec : (lower upper : Level) → IsNextLevel lower upper → Adds upper → (t : ActionTree) (s : State) → IsLater (exec lower t s) (exec upper t s)
  later-exec lower upper next adds Nothing s = refl
  later-exec lower upper next adds (Declare n) s = refl
  later-exec lower upper next adds (Sequence ss) s = later-exec_all lower upper next adds ss s
  later-exec lower upper next adds (Give target v) s = later-gives lower upper next target v s
  later-exec lower upper next adds (Store g i e) s = later-same (stores g s (word i s) (word e s))
  later-exec lower upper next adds (Update g i o e) s = later-same (updates g o s (word i s) (word e s))
  later-exec lower upper next adds (If c t u) s = later-branches s (word c s) (exec lower t s) (exec lower u s) (exec upper t s) (exec upper u s) (later-exec lower upper next adds t s) (later-exec lower upper next adds u s)
  later-exec lower upper next adds (Loop c body behind) s = next (Turns c body behind) s
  later-exec lower upper next adds Break s = refl
  later-exec lower upper next adds Continue s = refl
  later-exec lower upper next adds Leave s = refl

  pub later-exec_all : (lower upper : Level) → IsNextLevel lower upper → Adds upper → (ts : ActionsTree) (s : State) → IsLater (exec_all lower ts s) (exec_all upper ts s)
  later-exec_all lower upper next adds Done s = refl
  later-exec_all lower upper next adds (First t rest) s =
      later-goes_on (exec_all lower rest) (exec_all upper rest) (exec lower t s) (exec upper t s) (later-exec_all lower upper next adds rest) (prints-exec_all upper adds rest) (later-exec lower upper next adds t s)

later-turns_again : (lower upper : Level) → IsNextLevel lower upper → Adds upper → (c : TermTree) (body behind : ActionTree) (o o' : Outcome) → IsLater o o' → IsLater (turns_again lower c body behind o) (turns_again upper c body behind o')
later-turns_again lower upper next adds c body behind (Falls s) o' e = subst (λ x. IsLater (lower (Turns c body behind) s) (turns_again upper c body behind x)) (sym e) (next (Turns c body behind) s)
later-turns_again lower upper next adds c body behind (Breaks s) o' e = ap (turns_again upper c body behind) e
later-turns_again lower upper next adds c body behind (Continues s) o' e = ap (turns_again upper c body behind) e
later-turns_again lower upper next adds c body behind (Returns w s) o' e = ap (turns_again upper c body behind) e
later-turns_again lower upper next adds c body behind (RunsOut printed) o' e = prints-turns_again upper adds printed c body behind o' e
later-turns_again lower upper next adds c body behind (Fails printed) o' e = ap (turns_again upper c body behind) e

-- what is done behind the body, and the next turn
later-behind : (lower upper : Level) → IsNextLevel lower upper → Adds upper → (c : TermTree) (body behind : ActionTree) (s : State) → IsLater (turns_again lower c body behind (exec lower behind s)) (turns_again upper c body behind (exec upper behind s))
later-behind lower upper next adds c body behind s =
    later-turns_again lower upper next adds c body behind (exec lower behind s) (exec upper behind s) (later-exec lower upper next adds behind s)

later-after_body : (lower upper : Level) → IsNextLevel lower upper → Adds upper → (c : TermTree) (body behind : ActionTree) (o o' : Outcome) → IsLater o o' → IsLater (after_body lower c body behind o) (after_body upper c body behind o')
later-after_body lower upper next adds c body behind (Falls s) o' e =
    subst (λ x. IsLater (after_body lower c body behind (Falls s)) (after_body upper c body behind x)) (sym e) (later-behind lower upper next adds c body behind s)
later-after_body lower upper next adds c body behind (Breaks s) o' e = ap (after_body upper c body behind) e
later-after_body lower upper next adds c body behind (Continues s) o' e =
    subst (λ x. IsLater (after_body lower c body behind (Continues s)) (after_body upper c body behind x)) (sym e) (later-behind lower upper next adds c body behind s)
later-after_body lower upper next adds c body behind (Returns w s) o' e = ap (after_body upper c body behind) e
later-after_body lower upper next adds c body behind (RunsOut printed) o' e = prints-after_body upper adds printed c body behind o' e
later-after_body lower upper next adds c body behind (Fails printed) o' e = ap (after_body upper c body behind) e

later-turns : (lower upper : Level) → IsNextLevel lower upper → Adds upper → (c : TermTree) (body behind : ActionTree) (s : State) → IsLater (turns lower c body behind s) (turns upper c body behind s)
later-turns lower upper next adds c body behind s =
    later-branches s (word c s) (after_body lower c body behind (exec lower body s)) (Falls s) (after_body upper c body behind (exec upper body s)) (Falls s)
    (later-after_body lower upper next adds c body behind (exec lower body s) (exec upper body s) (later-exec lower upper next adds body s)) refl

later-ends : (ending : Ending) (o o' : Outcome) → IsLater o o' → IsLater (ends ending o) (ends ending o')
later-ends ending (Falls s) o' e = subst (λ x. IsLater (reaches ending s) (ends ending x)) (sym e) (later-same (reaches ending s))
later-ends ending (Breaks s) o' e = ap (ends ending) e
later-ends ending (Continues s) o' e = ap (ends ending) e
later-ends ending (Returns w s) o' e = ap (ends ending) e
later-ends ending (RunsOut printed) o' e = prints-ends printed ending o' e
later-ends ending (Fails printed) o' e = ap (ends ending) e

pub later-enters : (lower upper : Level) → IsNextLevel lower upper → Adds upper → (f : Option FunctionTree) (arguments : List ℕ) (s : State) → IsLater (enters lower f arguments s) (enters upper f arguments s)
later-enters lower upper next adds None arguments s = refl
later-enters lower upper next adds (Some f) arguments s =
    let here = begins f arguments s in
    later-if (length arguments == f.parameters) (ends f.ending (exec_all lower f.body here)) (Fails s.output) (ends f.ending (exec_all upper f.body here)) (Fails s.output)
    (later-ends f.ending (exec_all lower f.body here) (exec_all upper f.body here) (later-exec_all lower upper next adds f.body here)) refl

pub later-level : (functions : List FunctionTree) (n : ℕ) → IsNextLevel (level functions n) (level functions (suc n))
later-level functions zero work s = prints-level functions 1 work s
later-level functions (suc n) (Turns c body behind) s = later-turns (level functions n) (level functions (suc n)) (later-level functions n) (prints-level functions (suc n)) c body behind s
later-level functions (suc n) (Calls f arguments) s =
    later-enters (level functions n) (level functions (suc n)) (later-level functions n) (prints-level functions (suc n)) (slice_get functions f) arguments s

-- what is shown of an outcome, and of what it may be at the next bound
later-shown : (o o' : Outcome) → IsLater o o' → GoesOnTo (shown o).shown (shown o) (shown o')
later-shown (Falls s) o' e = ap shown e
later-shown (Breaks s) o' e = ap shown e
later-shown (Continues s) o' e = ap shown e
later-shown (Returns None s) o' e = ap shown e
later-shown (Returns (Some w) s) o' e = ap shown e
later-shown (RunsOut printed) (Falls s) h = h
later-shown (RunsOut printed) (Breaks s) h = h
later-shown (RunsOut printed) (Continues s) h = h
later-shown (RunsOut printed) (Returns None s) h = h
later-shown (RunsOut printed) (Returns (Some w) s) h = h
later-shown (RunsOut printed) (RunsOut o) h = h
later-shown (RunsOut printed) (Fails o) h = h
later-shown (Fails printed) o' e = ap shown e

pub runs_on : (p : ProgramTree) → IsRun (crun p)
runs_on p n =
    let main = slice_get p.functions p.main in
    let begun = start p.globals in
    let one : suc n ≡ n + 1 = omega arith in
    let next : IsNextLevel (level p.functions n) (level p.functions (n + 1)) = subst (λ m. IsNextLevel (level p.functions n) (level p.functions m)) one (later-level p.functions n) in
    later-shown (enters (level p.functions n) main [] begun) (enters (level p.functions (n + 1)) main [] begun)
    (later-enters (level p.functions n) (level p.functions (n + 1)) next (prints-level p.functions (n + 1)) main [] begun)
