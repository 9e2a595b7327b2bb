-- What programs of Cminor do (Leroy 2009, section 3.1), with a bound. The bound is C's: it is spent at the
-- head of each turn of a loop and at each call, whose bodies run with one less; what follows runs with it.
use Rattle.std.specs.Prelude.{ℕ, zero, suc, ◌-◌, ◌%◌, ◌==◌, true, List, [], ◌∷◌, ◌++◌, length, Option, Some, None, map, replicate, slice_get, if◌then◌else◌}
use Rattle.lang_base.specs.declared.shown.Shown.TheVariants.{Running, Ended, Wrong}
use Rattle.lang_base.specs.Behaviour.{Shows, Behaviour}
use Rattle.lang_base.specs.declared.program.Named.{Named}
use Rattle.lang_base.specs.declared.program.Program.{Program}
use Rattle.machine.specs.Frames.{main_number, cells_of}
use Rattle.cminor_syntax.specs.Trees.{StatementTree, StatementsTree, FunctionTree, Skip, Assign, Store, Call, Put, Sequence, If, Loop, Block, Exit, Return, Done, First}
use Rattle.cminor_syntax.specs.State.{State, given, put_cell}
use Rattle.cminor_syntax.specs.Evaluation.{value, word, values}

-- how a statement leaves
pub data Outcome : Type 0 where
  -- what follows it is done
  Falls : State → Outcome
  -- so many blocks, and one more, are left
  Exits : ℕ → State → Outcome
  -- the function is left, with a word or none
  Returns : Option ℕ → State → Outcome
  -- the bound is spent, and so much is printed
  RunsOut : List ℕ → Outcome
  -- the run goes wrong, and so much is printed
  Fails : List ℕ → Outcome

-- what may be done with one bound less: a statement, or a function on these arguments
pub data Work : Type 0 where
  Does : (s : StatementTree) → Work
  Calls : (f : ℕ) (arguments : List (Option ℕ)) → Work

-- what runs with some bound
abbrev pub Level : Type 0
Level = Work → State → Outcome

-- what is done next, where the outcome falls through
abbrev pub goes_on : (State → Outcome) → Outcome → Outcome
goes_on next (Falls s) = next s
goes_on next (Exits n s) = Exits n s
goes_on next (Returns w s) = Returns w s
goes_on next (RunsOut printed) = RunsOut printed
goes_on next (Fails printed) = Fails printed

-- a block is left by an exit
abbrev pub leaves_block : Outcome → Outcome
leaves_block (Falls s) = Falls s
leaves_block (Exits zero s) = Falls s
leaves_block (Exits (suc n) s) = Exits n s
leaves_block (Returns w s) = Returns w s
leaves_block (RunsOut printed) = RunsOut printed
leaves_block (Fails printed) = Fails printed

-- a variable becomes a value, defined or not
abbrev pub assigns : ℕ → State → Option (Option ℕ) → Outcome
assigns v s None = Fails s.output
assigns v s (Some x) = Falls (given (Some v) x s)

-- the state with these globals
abbrev pub with_globals : State → Option (List (List ℕ)) → Outcome
with_globals s None = Fails s.output
with_globals s (Some globals) = Falls (record s { globals = globals })

-- a cell of a global becomes a word
abbrev pub stores : ℕ → State → Option ℕ → Option ℕ → Outcome
stores g s None w = Fails s.output
stores g s (Some i) None = Fails s.output
stores g s (Some i) (Some w) = with_globals s (put_cell s.globals g i w)

-- the low eight bits of a word are printed, and a variable, if one is named, gets them
abbrev pub puts : Option ℕ → State → Option ℕ → Outcome
puts target s None = Fails s.output
puts target s (Some w) = Falls (given target (Some (w % 256)) (record s { output = s.output ++ w % 256 ∷ [] }))

-- the first where the word is not 0
abbrev pub branches : State → Option ℕ → Outcome → Outcome → Outcome
branches s None a b = Fails s.output
branches s (Some w) a b = if w == 0 then b else a

abbrev pub returns : State → Option ℕ → Outcome
returns s None = Fails s.output
returns s (Some w) = Returns (Some w) s

-- the caller's variables, with the callee's globals and output; a variable, if one is named, gets what was
-- returned, and is undefined where that is nothing
abbrev pub resumed : Option ℕ → State → Option ℕ → State → State
resumed target caller result s = given target result (record { variables = caller.variables; globals = s.globals; output = s.output })

-- a callee's outcome, as the caller's: no block is left from within a function
abbrev pub comes_back : Option ℕ → State → Outcome → Outcome
comes_back target caller (Falls s) = Falls (resumed target caller None s)
comes_back target caller (Exits n s) = Fails s.output
comes_back target caller (Returns w s) = Falls (resumed target caller w s)
comes_back target caller (RunsOut printed) = RunsOut printed
comes_back target caller (Fails printed) = Fails printed

-- a call, once its arguments have values
abbrev pub calls : Level → ℕ → Option ℕ → State → Option (List (Option ℕ)) → Outcome
calls lower f target s None = Fails s.output
calls lower f target s (Some arguments) = comes_back target s (lower (Calls f arguments) s)

-- What a statement does, where `lower` is what runs with one bound less.
abbrev mutual
  pub exec : Level → StatementTree → State → Outcome
  exec lower Skip s = Falls s
  exec lower (Assign v e) s = assigns v s (value e s)
  exec lower (Store g i e) s = stores g s (word i s) (word e s)
  exec lower (Call f target arguments) s = calls lower f target s (values arguments s)
  exec lower (Put target e) s = puts target s (word e s)
  exec lower (Sequence ss) s = exec_all lower ss s
  exec lower (If e t u) s = branches s (word e s) (exec lower t s) (exec lower u s)
  exec lower (Loop t) s = goes_on (lower (Does (Loop t))) (lower (Does t) s)
  exec lower (Block t) s = leaves_block (exec lower t s)
  exec lower (Exit n) s = Exits n s
  exec lower (Return None) s = Returns None s
  exec lower (Return (Some e)) s = returns s (word e s)

  pub exec_all : Level → StatementsTree → State → Outcome
  exec_all lower Done s = Falls s
  exec_all lower (First t rest) s = goes_on (exec_all lower rest) (exec lower t s)

-- a called function begins with its arguments, and all its other variables undefined
abbrev pub begins : FunctionTree → List (Option ℕ) → State → State
begins f arguments s = record { variables = arguments ++ replicate (f.variables - f.parameters) None; globals = s.globals; output = s.output }

-- a function's body, where there is such a function and it takes so many arguments
abbrev pub enters : Level → Option (Named FunctionTree) → List (Option ℕ) → State → Outcome
enters lower None arguments s = Fails s.output
enters lower (Some f) arguments s =
    if length arguments == f.function.parameters then exec lower f.function.body (begins f.function arguments s) else Fails s.output

-- What runs below a bound: nothing below 0, and below n + 1 what runs with the bound n.
abbrev pub level : List (Named FunctionTree) → ℕ → Level
level functions zero work s = RunsOut s.output
level functions (suc n) (Does t) s = exec (level functions n) t s
level functions (suc n) (Calls f arguments) s = enters (level functions n) (slice_get functions f) arguments s

-- what is shown of a call of main, which is to return a word
abbrev pub shown : Outcome → Shows
shown (Falls s) = record { shown = Wrong; output = s.output }
shown (Exits n s) = record { shown = Wrong; output = s.output }
shown (Returns None s) = record { shown = Wrong; output = s.output }
shown (Returns (Some w) s) = record { shown = Ended w; output = s.output }
shown (RunsOut printed) = record { shown = Running; output = printed }
shown (Fails printed) = record { shown = Wrong; output = printed }

-- the globals at the start, and nothing printed
abbrev pub start : Program FunctionTree → State
start p = record { variables = []; globals = map cells_of p.globals; output = [] }

-- What the run of a program shows at a bound: main's body runs with it.
abbrev pub run : Program FunctionTree → Behaviour
run p = λ n. shown (enters (level p.functions n) (slice_get p.functions (main_number (λ f. true) p.functions)) [] (start p))
