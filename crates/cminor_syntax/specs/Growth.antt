-- From one bound to the next the output of a program only grows, and an end or a fault stays.
use Rattle.std.proofs.Common.{◌≡◌, ℕ, zero, suc, ◌+◌, ◌==◌, Bool, true, false, cond, List, [], ◌∷◌, ◌++◌, length, Option, Some, None, refl, sym, ap, subst, arith}
use Rattle.std.specs.Prelude.{slice_get, ◌%◌}
use Rattle.lang_base.specs.Behaviour.{IsBeginningOf, GoesOnTo, IsRun}
use Rattle.lang_base.specs.declared.program.Named.{Named}
use Rattle.lang_base.specs.declared.program.Program.{Program}
use Rattle.lang_base.proofs.Beginnings.{IsBeginningOf-refl, IsBeginningOf-trans}
use Rattle.machine.specs.Frames.{main_number}
use Rattle.cminor_syntax.specs.Trees.{StatementTree, StatementsTree, FunctionTree, Skip, Assign, Store, Call, Put, Sequence, If, Loop, Block, Exit, Return, Done, First}
use Rattle.cminor_syntax.specs.State.{State, given, put_cell}
use Rattle.cminor_syntax.specs.Evaluation.{value, word, values}
use Rattle.cminor_syntax.specs.Meaning.{Outcome, Falls, Exits, Returns, RunsOut, Fails, Work, Does, Calls, Level, goes_on, leaves_block, assigns, with_globals, stores, puts, branches, returns, comes_back, calls, exec, exec_all, begins, enters, level, shown, start, run}

-- what is printed at an outcome
abbrev pub output_of : Outcome → List ℕ
output_of (Falls s) = s.output
output_of (Exits n s) = s.output
output_of (Returns w s) = s.output
output_of (RunsOut printed) = printed
output_of (Fails printed) = printed

-- at the outcome at least this is printed
abbrev pub PrintsOn : List ℕ → Outcome → Type 0
PrintsOn printed o = IsBeginningOf printed (output_of o)

-- what runs at a level only adds to the output
abbrev pub Adds : Level → Type 0
Adds lower = (work : Work) (s : State) → PrintsOn s.output (lower work s)

-- ---- the output only grows within a bound

output-given : (target x : Option ℕ) (s : State) → (given target x s).output ≡ s.output
output-given None x s = refl
output-given (Some v) x s = refl

prints-goes_on : (printed : List ℕ) (next : State → Outcome) (o : Outcome) → ((t : State) → PrintsOn t.output (next t)) → PrintsOn printed o → PrintsOn printed (goes_on next o)
prints-goes_on printed next (Falls s) then so_far = IsBeginningOf-trans _ _ _ so_far (then s)
prints-goes_on printed next (Exits n s) then so_far = so_far
prints-goes_on printed next (Returns w s) then so_far = so_far
prints-goes_on printed next (RunsOut o) then so_far = so_far
prints-goes_on printed next (Fails o) then so_far = so_far

prints-leaves_block : (printed : List ℕ) (o : Outcome) → PrintsOn printed o → PrintsOn printed (leaves_block o)
prints-leaves_block printed (Falls s) h = h
prints-leaves_block printed (Exits zero s) h = h
prints-leaves_block printed (Exits (suc n) s) h = h
prints-leaves_block printed (Returns w s) h = h
prints-leaves_block printed (RunsOut o) h = h
prints-leaves_block printed (Fails o) h = h

prints-assigns : (v : ℕ) (s : State) (x : Option (Option ℕ)) → PrintsOn s.output (assigns v s x)
prints-assigns v s None = IsBeginningOf-refl s.output
prints-assigns v s (Some x) = IsBeginningOf-refl s.output

prints-with_globals : (s : State) (globals : Option (List (List ℕ))) → PrintsOn s.output (with_globals s globals)
prints-with_globals s None = IsBeginningOf-refl s.output
prints-with_globals s (Some globals) = IsBeginningOf-refl s.output

prints-stores : (g : ℕ) (s : State) (i w : Option ℕ) → PrintsOn s.output (stores g s i w)
prints-stores g s None w = IsBeginningOf-refl s.output
prints-stores g s (Some i) None = IsBeginningOf-refl s.output
prints-stores g s (Some i) (Some w) = prints-with_globals s (put_cell s.globals g i w)

prints-puts : (target : Option ℕ) (s : State) (w : Option ℕ) → PrintsOn s.output (puts target s w)
prints-puts target s None = IsBeginningOf-refl s.output
prints-puts target s (Some w) = (w % 256 ∷ [], sym (output-given target (Some (w % 256)) (record s { output = s.output ++ w % 256 ∷ [] })))

prints-if : (printed : List ℕ) (b : Bool) (o p : Outcome) → PrintsOn printed o → PrintsOn printed p → PrintsOn printed (cond b o p)
prints-if printed true o p h k = h
prints-if printed false o p h k = k

prints-branches : (s : State) (w : Option ℕ) (a b : Outcome) → PrintsOn s.output a → PrintsOn s.output b → PrintsOn s.output (branches s w a b)
prints-branches s None a b h k = IsBeginningOf-refl s.output
prints-branches s (Some w) a b h k = prints-if s.output (w == 0) b a k h

prints-returns : (s : State) (w : Option ℕ) → PrintsOn s.output (returns s w)
prints-returns s None = IsBeginningOf-refl s.output
prints-returns s (Some w) = IsBeginningOf-refl s.output

prints-comes_back : (printed : List ℕ) (target : Option ℕ) (caller : State) (o : Outcome) → PrintsOn printed o → PrintsOn printed (comes_back target caller o)
prints-comes_back printed target caller (Falls s) h = subst (IsBeginningOf printed) (sym (output-given target None (record { variables = caller.variables; globals = s.globals; output = s.output }))) h
prints-comes_back printed target caller (Exits n s) h = h
prints-comes_back printed target caller (Returns w s) h = subst (IsBeginningOf printed) (sym (output-given target w (record { variables = caller.variables; globals = s.globals; output = s.output }))) h
prints-comes_back printed target caller (RunsOut o) h = h
prints-comes_back printed target caller (Fails o) h = h

prints-calls : (lower : Level) → Adds lower → (f : ℕ) (target : Option ℕ) (s : State) (arguments : Option (List (Option ℕ))) → PrintsOn s.output (calls lower f target s arguments)
prints-calls lower adds f target s None = IsBeginningOf-refl s.output
prints-calls lower adds f target s (Some arguments) = prints-comes_back s.output target s (lower (Calls f arguments) s) (adds (Calls f arguments) s)

mutual
  pub prints-exec : (lower : Level) → Adds lower → (t : StatementTree) (s : State) → PrintsOn s.output (exec lower t s)
  prints-exec lower adds Skip s = IsBeginningOf-refl s.output
  prints-exec lower adds (Assign v e) s = prints-assigns v s (value e s)
  prints-exec lower adds (Store g i e) s = prints-stores g s (word i s) (word e s)
  prints-exec lower adds (Call f target arguments) s = prints-calls lower adds f target s (values arguments s)
  prints-exec lower adds (Put target e) s = prints-puts target s (word e s)
  prints-exec lower adds (Sequence ss) s = prints-exec_all lower adds ss s
  prints-exec lower adds (If e t u) s = prints-branches s (word e s) (exec lower t s) (exec lower u s) (prints-exec lower adds t s) (prints-exec lower adds u s)
  prints-exec lower adds (Loop t) s = prints-goes_on s.output (lower (Does (Loop t))) (lower (Does t) s) (adds (Does (Loop t))) (adds (Does t) s)
  prints-exec lower adds (Block t) s = prints-leaves_block s.output (exec lower t s) (prints-exec lower adds t s)
  prints-exec lower adds (Exit n) s = IsBeginningOf-refl s.output
  prints-exec lower adds (Return None) s = IsBeginningOf-refl s.output
  prints-exec lower adds (Return (Some e)) s = prints-returns s (word e s)

  pub prints-exec_all : (lower : Level) → Adds lower → (ts : StatementsTree) (s : State) → PrintsOn s.output (exec_all lower ts s)
  prints-exec_all lower adds Done s = IsBeginningOf-refl s.output
  prints-exec_all lower adds (First t rest) s = prints-goes_on s.output (exec_all lower rest) (exec lower t s) (prints-exec_all lower adds rest) (prints-exec lower adds t s)

prints-enters : (lower : Level) → Adds lower → (f : Option (Named FunctionTree)) (arguments : List (Option ℕ)) (s : State) → PrintsOn s.output (enters lower f arguments s)
prints-enters lower adds None arguments s = IsBeginningOf-refl s.output
prints-enters lower adds (Some f) arguments s =
    prints-if s.output (length arguments == f.function.parameters) _ _ (prints-exec lower adds f.function.body (begins f.function arguments s)) (IsBeginningOf-refl s.output)

pub prints-level : (functions : List (Named FunctionTree)) (n : ℕ) → Adds (level functions n)
prints-level functions zero work s = IsBeginningOf-refl s.output
prints-level functions (suc n) (Does t) s = prints-exec (level functions n) (prints-level functions n) t s
prints-level functions (suc n) (Calls f arguments) s = prints-enters (level functions n) (prints-level functions n) (slice_get functions f) arguments s

-- ---- from one bound to the next

-- what an outcome may be at the next bound: one that ran out may go on, and any other stays
abbrev pub IsLater : Outcome → Outcome → Type 0
IsLater (Falls s) later = later ≡ Falls s
IsLater (Exits n s) later = later ≡ Exits n s
IsLater (Returns w s) later = later ≡ Returns w s
IsLater (RunsOut printed) later = PrintsOn printed later
IsLater (Fails printed) later = later ≡ Fails printed

-- each outcome of the second level is what the first one's may be at the next bound
abbrev pub IsNextLevel : Level → Level → Type 0
IsNextLevel lower upper = (work : Work) (s : State) → IsLater (lower work s) (upper work s)

pub later-same : (o : Outcome) → IsLater o o
later-same (Falls s) = refl
later-same (Exits n s) = refl
later-same (Returns w s) = refl
later-same (RunsOut printed) = IsBeginningOf-refl printed
later-same (Fails printed) = refl

pub later-goes_on : (next next' : State → Outcome) (o o' : Outcome) → ((t : State) → IsLater (next t) (next' t)) → ((t : State) → PrintsOn t.output (next' t)) → IsLater o o' → IsLater (goes_on next o) (goes_on next' o')
later-goes_on next next' (Falls s) o' then adds e = subst (λ x. IsLater (next s) (goes_on next' x)) (sym e) (then s)
later-goes_on next next' (Exits n s) o' then adds e = ap (goes_on next') e
later-goes_on next next' (Returns w s) o' then adds e = ap (goes_on next') e
later-goes_on next next' (RunsOut printed) o' then adds e = prints-goes_on printed next' o' adds e
later-goes_on next next' (Fails printed) o' then adds e = ap (goes_on next') e

later-leaves_block : (o o' : Outcome) → IsLater o o' → IsLater (leaves_block o) (leaves_block o')
later-leaves_block (Falls s) o' e = ap leaves_block e
later-leaves_block (Exits zero s) o' e = ap leaves_block e
later-leaves_block (Exits (suc n) s) o' e = ap leaves_block e
later-leaves_block (Returns w s) o' e = ap leaves_block e
later-leaves_block (RunsOut printed) o' e = prints-leaves_block printed o' e
later-leaves_block (Fails printed) o' e = ap leaves_block e

later-if : (b : Bool) (o p o' p' : Outcome) → IsLater o o' → IsLater p p' → IsLater (cond b o p) (cond b o' p')
later-if true o p o' p' h k = h
later-if false o p o' p' h k = k

later-branches : (s : State) (w : Option ℕ) (a b a' b' : Outcome) → IsLater a a' → IsLater b b' → IsLater (branches s w a b) (branches s w a' b')
later-branches s None a b a' b' h k = refl
later-branches s (Some w) a b a' b' h k = later-if (w == 0) b a b' a' k h

later-comes_back : (target : Option ℕ) (caller : State) (o o' : Outcome) → IsLater o o' → IsLater (comes_back target caller o) (comes_back target caller o')
later-comes_back target caller (Falls s) o' e = ap (comes_back target caller) e
later-comes_back target caller (Exits n s) o' e = ap (comes_back target caller) e
later-comes_back target caller (Returns w s) o' e = ap (comes_back target caller) e
later-comes_back target caller (RunsOut printed) o' e = prints-comes_back printed target caller o' e
later-comes_back target caller (Fails printed) o' e = ap (comes_back target caller) e

later-calls : (lower upper : Level) → IsNextLevel lower upper → (f : ℕ) (target : Option ℕ) (s : State) (arguments : Option (List (Option ℕ))) → IsLater (calls lower f target s arguments) (calls upper f target s arguments)
later-calls lower upper next f target s None = refl
later-calls lower upper next f target s (Some arguments) = later-comes_back target s (lower (Calls f arguments) s) (upper (Calls f arguments) s) (next (Calls f arguments) s)

mutual
  pub later-exec : (lower upper : Level) → IsNextLevel lower upper → Adds upper → (t : StatementTree) (s : State) → IsLater (exec lower t s) (exec upper t s)
  later-exec lower upper next adds Skip s = refl
  later-exec lower upper next adds (Assign v e) s = later-same (assigns v s (value e s))
  later-exec lower upper next adds (Store g i e) s = later-same (stores g s (word i s) (word e s))
  later-exec lower upper next adds (Call f target arguments) s = later-calls lower upper next f target s (values arguments s)
  later-exec lower upper next adds (Put target e) s = later-same (puts target s (word e s))
  later-exec lower upper next adds (Sequence ss) s = later-exec_all lower upper next adds ss s
  later-exec lower upper next adds (If e t u) s = later-branches s (word e s) (exec lower t s) (exec lower u s) (exec upper t s) (exec upper u s) (later-exec lower upper next adds t s) (later-exec lower upper next adds u s)
  later-exec lower upper next adds (Loop t) s = later-goes_on (lower (Does (Loop t))) (upper (Does (Loop t))) (lower (Does t) s) (upper (Does t) s) (next (Does (Loop t))) (adds (Does (Loop t))) (next (Does t) s)
  later-exec lower upper next adds (Block t) s = later-leaves_block (exec lower t s) (exec upper t s) (later-exec lower upper next adds t s)
  later-exec lower upper next adds (Exit n) s = refl
  later-exec lower upper next adds (Return None) s = refl
  later-exec lower upper next adds (Return (Some e)) s = later-same (returns s (word e s))

  pub later-exec_all : (lower upper : Level) → IsNextLevel lower upper → Adds upper → (ts : StatementsTree) (s : State) → IsLater (exec_all lower ts s) (exec_all upper ts s)
  later-exec_all lower upper next adds Done s = refl
  later-exec_all lower upper next adds (First t rest) s =
      later-goes_on (exec_all lower rest) (exec_all upper rest) (exec lower t s) (exec upper t s) (later-exec_all lower upper next adds rest) (prints-exec_all upper adds rest) (later-exec lower upper next adds t s)

pub later-enters : (lower upper : Level) → IsNextLevel lower upper → Adds upper → (f : Option (Named FunctionTree)) (arguments : List (Option ℕ)) (s : State) → IsLater (enters lower f arguments s) (enters upper f arguments s)
later-enters lower upper next adds None arguments s = refl
later-enters lower upper next adds (Some f) arguments s =
    later-if (length arguments == f.function.parameters) (exec lower f.function.body (begins f.function arguments s)) (Fails s.output) (exec upper f.function.body (begins f.function arguments s)) (Fails s.output)
    (later-exec lower upper next adds f.function.body (begins f.function arguments s)) refl

pub later-level : (functions : List (Named FunctionTree)) (n : ℕ) → IsNextLevel (level functions n) (level functions (suc n))
later-level functions zero work s = prints-level functions 1 work s
later-level functions (suc n) (Does t) s = later-exec (level functions n) (level functions (suc n)) (later-level functions n) (prints-level functions (suc n)) t s
later-level functions (suc n) (Calls f arguments) s =
    later-enters (level functions n) (level functions (suc n)) (later-level functions n) (prints-level functions (suc n)) (slice_get functions f) arguments s

-- what is shown of an outcome, and of what it may be at the next bound
later-shown : (o o' : Outcome) → IsLater o o' → GoesOnTo (shown o).shown (shown o) (shown o')
later-shown (Falls s) o' e = ap shown e
later-shown (Exits n s) o' e = ap shown e
later-shown (Returns None s) o' e = ap shown e
later-shown (Returns (Some w) s) o' e = ap shown e
later-shown (RunsOut printed) (Falls s) h = h
later-shown (RunsOut printed) (Exits n s) h = h
later-shown (RunsOut printed) (Returns None s) h = h
later-shown (RunsOut printed) (Returns (Some w) s) h = h
later-shown (RunsOut printed) (RunsOut o) h = h
later-shown (RunsOut printed) (Fails o) h = h
later-shown (Fails printed) o' e = ap shown e

pub runs_on : (p : Program FunctionTree) → IsRun (run p)
runs_on p n =
    let main = slice_get p.functions (main_number (λ f. true) p.functions) in
    let one : suc n ≡ n + 1 = omega arith in
    let next : IsNextLevel (level p.functions n) (level p.functions (n + 1)) = subst (λ m. IsNextLevel (level p.functions n) (level p.functions m)) one (later-level p.functions n) in
    later-shown (enters (level p.functions n) main [] (start p)) (enters (level p.functions (n + 1)) main [] (start p))
    (later-enters (level p.functions n) (level p.functions (n + 1)) next (prints-level p.functions (n + 1)) main [] (start p))
