-- What C programs do (C99 5.1.2.2.3, 6.5, 6.8, 6.9.1 and 7.19.7.3), with a bound. The bound is spent at the
-- head of each turn of a loop and at each call, whose bodies run with one less; what follows runs with it.
use Rattle.std.specs.Prelude.{ℕ, zero, suc, ◌-◌, ◌%◌, ◌==◌, List, [], ◌∷◌, ◌++◌, length, Option, Some, None, map, replicate, slice_get, if◌then◌else◌}
use Rattle.lang_base.specs.declared.shown.Shown.TheVariants.{Running, Ended, Wrong}
use Rattle.lang_base.specs.Behaviour.{Shows, Behaviour}
use Rattle.ints.specs.declared.operators.Op.{Op}
use Rattle.c_program.specs.declared.action.Target.{Target}
use Rattle.c_program.specs.declared.action.Target.TheVariants.{Nowhere, Local, Global, Caller}
use Rattle.c_program.specs.declared.function.Ending.{Ending}
use Rattle.c_program.specs.declared.function.Ending.TheVariants as E
use Rattle.c_program.specs.declared.function.GlobalVariable.{GlobalVariable}
use Rattle.c_program.specs.Trees.{TermTree, GivenTree, ActionTree, ActionsTree, FunctionTree, ProgramTree, Plain, Called, Put, Nothing, Declare, Sequence, Give, Store, Update, If, Loop, Break, Continue, Leave, Done, First}
use Rattle.c_program.specs.Values.{cell_of, on_two}
use Rattle.c_program.specs.State.{State, word, words, with_local, put_cell}

-- how a statement leaves
pub data Outcome : Type 0 where
  -- what follows it is done
  Falls : State → Outcome
  -- the nearest loop is left
  Breaks : State → Outcome
  -- the rest of the nearest loop's body is left out
  Continues : State → Outcome
  -- the function is left, with a word or none
  Returns : Option ℕ → State → Outcome
  -- the bound is spent, and so much is printed
  RunsOut : List ℕ → Outcome
  -- the run goes wrong, and so much is printed
  Fails : List ℕ → Outcome

-- what may be done with one bound less: a loop from its head on, or a function on these arguments
pub data Work : Type 0 where
  Turns : (c : TermTree) (body behind : ActionTree) → Work
  Calls : (f : ℕ) (arguments : List ℕ) → Work

-- what runs with some bound
abbrev pub Level : Type 0
Level = Work → State → Outcome

-- what is done next, where the outcome falls through
abbrev pub goes_on : (State → Outcome) → Outcome → Outcome
goes_on next (Falls s) = next s
goes_on next (Breaks s) = Breaks s
goes_on next (Continues s) = Continues s
goes_on next (Returns w s) = Returns w s
goes_on next (RunsOut printed) = RunsOut printed
goes_on next (Fails printed) = Fails printed

-- the state with these globals
abbrev pub with_globals : State → Option (List (List ℕ)) → Outcome
with_globals s None = Fails s.output
with_globals s (Some globals) = Falls (record s { globals = globals })

-- a cell of a global becomes a word: an index that is not below the array's size goes wrong
abbrev pub stores : ℕ → State → Option ℕ → Option ℕ → Outcome
stores g s None w = Fails s.output
stores g s (Some i) None = Fails s.output
stores g s (Some i) (Some w) = with_globals s (put_cell s.globals g i w)

-- a cell of a global becomes what an operator gives of its word and another: the index is evaluated once
abbrev pub updates : ℕ → Op → State → Option ℕ → Option ℕ → Outcome
updates g o s None w = Fails s.output
updates g o s (Some i) w = stores g s (Some i) (on_two o (cell_of s.globals g i) w)

-- a word goes to its target: a variable without size is its cell 0
abbrev pub arrives : Target → ℕ → State → Outcome
arrives Nowhere w s = Falls s
arrives (Local n) w s = Falls (with_local n (Some w) s)
arrives (Global g) w s = stores g s (Some 0) (Some w)
arrives Caller w s = Returns (Some w) s

-- an expression's word goes to its target
abbrev pub yields : Target → State → Option ℕ → Outcome
yields target s None = Fails s.output
yields target s (Some w) = arrives target w s

-- the low eight bits of a word are printed, and go to the target
abbrev pub puts : Target → State → Option ℕ → Outcome
puts target s None = Fails s.output
puts target s (Some w) = arrives target (w % 256) (record s { output = s.output ++ w % 256 ∷ [] })

-- the first where the word is not 0
abbrev pub branches : State → Option ℕ → Outcome → Outcome → Outcome
branches s None a b = Fails s.output
branches s (Some w) a b = if w == 0 then b else a

-- what a callee returned goes to its target; none may be dropped, and serves for nothing else
abbrev pub hands_back : Target → Option ℕ → State → Outcome
hands_back Nowhere None s = Falls s
hands_back (Local n) None s = Fails s.output
hands_back (Global g) None s = Fails s.output
hands_back Caller None s = Fails s.output
hands_back target (Some w) s = arrives target w s

-- the caller's locals, with the callee's globals and output
abbrev pub resumed : List (Option ℕ) → State → State
resumed locals s = record { locals = locals; globals = s.globals; output = s.output }

-- a callee's outcome, as that of a caller with these locals: only a return leaves a function
abbrev pub comes_back : Target → List (Option ℕ) → Outcome → Outcome
comes_back target locals (Falls s) = Fails s.output
comes_back target locals (Breaks s) = Fails s.output
comes_back target locals (Continues s) = Fails s.output
comes_back target locals (Returns w s) = hands_back target w (resumed locals s)
comes_back target locals (RunsOut printed) = RunsOut printed
comes_back target locals (Fails printed) = Fails printed

-- a call, once its arguments have words
abbrev pub calls : Level → ℕ → Target → State → Option (List ℕ) → Outcome
calls lower f target s None = Fails s.output
calls lower f target s (Some arguments) = comes_back target s.locals (lower (Calls f arguments) s)

-- what gives a value is done, and the value goes to its target
abbrev pub gives : Level → Target → GivenTree → State → Outcome
gives lower target (Plain e) s = yields target s (word e s)
gives lower target (Called f arguments) s = calls lower f target s (words arguments s)
gives lower target (Put e) s = puts target s (word e s)

-- What a statement does, where `lower` is what runs with one bound less.
abbrev mutual
  pub exec : Level → ActionTree → State → Outcome
  exec lower Nothing s = Falls s
  exec lower (Declare n) s = Falls (with_local n None s)
  exec lower (Sequence ss) s = exec_all lower ss s
  exec lower (Give target v) s = gives lower target v s
  exec lower (Store g i e) s = stores g s (word i s) (word e s)
  exec lower (Update g i o e) s = updates g o s (word i s) (word e s)
  exec lower (If c t u) s = branches s (word c s) (exec lower t s) (exec lower u s)
  exec lower (Loop c body behind) s = lower (Turns c body behind) s
  exec lower Break s = Breaks s
  exec lower Continue s = Continues s
  exec lower Leave s = Returns None s

  pub exec_all : Level → ActionsTree → State → Outcome
  exec_all lower Done s = Falls s
  exec_all lower (First t rest) s = goes_on (exec_all lower rest) (exec lower t s)

-- The next turn of a loop, where what stands behind its body falls through. `continue` ends the part of the loop that it
-- stands in: in the body it goes to what stands behind, and there it leaves the loop. Nothing behind a body breaks.
abbrev pub turns_again : Level → TermTree → ActionTree → ActionTree → Outcome → Outcome
turns_again lower c body behind (Falls s) = lower (Turns c body behind) s
turns_again lower c body behind (Breaks s) = Fails s.output
turns_again lower c body behind (Continues s) = Falls s
turns_again lower c body behind (Returns w s) = Returns w s
turns_again lower c body behind (RunsOut printed) = RunsOut printed
turns_again lower c body behind (Fails printed) = Fails printed

-- what a loop does after its body
abbrev pub after_body : Level → TermTree → ActionTree → ActionTree → Outcome → Outcome
after_body lower c body behind (Falls s) = turns_again lower c body behind (exec lower behind s)
after_body lower c body behind (Breaks s) = Falls s
after_body lower c body behind (Continues s) = turns_again lower c body behind (exec lower behind s)
after_body lower c body behind (Returns w s) = Returns w s
after_body lower c body behind (RunsOut printed) = RunsOut printed
after_body lower c body behind (Fails printed) = Fails printed

-- a loop from its head on
abbrev pub turns : Level → TermTree → ActionTree → ActionTree → State → Outcome
turns lower c body behind s = branches s (word c s) (after_body lower c body behind (exec lower body s)) (Falls s)

-- what the end of a function's body means, where it is reached
abbrev pub reaches : Ending → State → Outcome
reaches E.Returns s = Returns None s
reaches E.ReturnsZero s = Returns (Some 0) s
reaches E.GoesWrong s = Fails s.output

-- a function's outcome, from its body's
abbrev pub ends : Ending → Outcome → Outcome
ends ending (Falls s) = reaches ending s
ends ending (Breaks s) = Fails s.output
ends ending (Continues s) = Fails s.output
ends ending (Returns w s) = Returns w s
ends ending (RunsOut printed) = RunsOut printed
ends ending (Fails printed) = Fails printed

-- a called function begins with its arguments, and all its other locals indeterminate
abbrev pub begins : FunctionTree → List ℕ → State → State
begins f arguments s = record { locals = map Some arguments ++ replicate (f.locals - f.parameters) None; globals = s.globals; output = s.output }

-- a function's body, where there is such a function and it takes so many arguments
abbrev pub enters : Level → Option FunctionTree → List ℕ → State → Outcome
enters lower None arguments s = Fails s.output
enters lower (Some f) arguments s =
    if length arguments == f.parameters then ends f.ending (exec_all lower f.body (begins f arguments s)) else Fails s.output

-- What runs below a bound: nothing below 0, and below n + 1 what runs with the bound n.
abbrev pub level : List FunctionTree → ℕ → Level
level functions zero work s = RunsOut s.output
level functions (suc n) (Turns c body behind) s = turns (level functions n) c body behind s
level functions (suc n) (Calls f arguments) s = enters (level functions n) (slice_get functions f) arguments s

-- what is shown of a call of main, which is to return a word
abbrev pub shown : Outcome → Shows
shown (Falls s) = record { shown = Wrong; output = s.output }
shown (Breaks s) = record { shown = Wrong; output = s.output }
shown (Continues s) = record { shown = Wrong; output = s.output }
shown (Returns None s) = record { shown = Wrong; output = s.output }
shown (Returns (Some w) s) = record { shown = Ended w; output = s.output }
shown (RunsOut printed) = record { shown = Running; output = printed }
shown (Fails printed) = record { shown = Wrong; output = printed }

-- so many cells: the listed words, then zeros
abbrev pub filled : ℕ → List ℕ → List ℕ
filled zero words = []
filled (suc n) [] = 0 ∷ filled n []
filled (suc n) (w ∷ ws) = w ∷ filled n ws

-- a global's cells at the start
abbrev pub cells_of : GlobalVariable → List ℕ
cells_of g = filled g.cells g.first_words

-- the globals at the start, and nothing printed
abbrev pub start : List GlobalVariable → State
start globals = record { locals = []; globals = map cells_of globals; output = [] }

-- What the run of a program shows at a bound: main's body runs with it.
abbrev pub crun : ProgramTree → Behaviour
crun p = λ n. shown (enters (level p.functions n) (slice_get p.functions p.main) [] (start p.globals))
