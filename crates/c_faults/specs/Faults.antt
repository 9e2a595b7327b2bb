-- Where a run goes wrong: the first part that has no value in the state in which it is done. What is done before it is what
-- the meaning does.
use Rattle.std.specs.Prelude.{◌≡◌, ℕ, zero, suc, ◌==◌, Bool, true, false, List, [], length, Option, Some, None, is_some, slice_get, if◌then◌else◌}
use Rattle.std.specs.Option.{option_or}
use Rattle.lang_base.specs.declared.shown.Shown.{Shown}
use Rattle.lang_base.specs.declared.shown.Shown.TheVariants.{Running, Ended, Wrong}
use Rattle.c_program.specs.declared.action.Target.{Target}
use Rattle.c_program.specs.Trees.{TermTree, GivenTree, ActionTree, ActionsTree, FunctionTree, ProgramTree}
use Rattle.c_program.specs.Trees as T
use Rattle.c_program.specs.State.{State, word, words, variables}
use Rattle.c_program.specs.Meaning.{Outcome, Falls, Breaks, Continues, Returns, RunsOut, Fails, Level, exec, exec_all, begins, enters, level, start, crun}
use Rattle.c_program.specs.Meaning as M
use Rattle.c_faults.specs.declared.fault.Site.{Site}
use Rattle.c_faults.specs.declared.fault.Fault.{Fault}
use Rattle.c_faults.specs.Places.{own, others, behind, behind_action}
use Rattle.c_faults.specs.Gaps.{by_word, first_gap}
use Rattle.c_faults.specs.Changes.{gap_in, store_gap, update_gap, malformed, arrival_gap, back_gap, end_gap, main_gap}
use Rattle.c_faults.specs.Frames.{Frame, told, calling, Turns, Calls, Blame, Places, places_in}

-- what goes wrong next, where an outcome falls through
abbrev pub if_falls : (State → Option Fault) → Outcome → Option Fault
if_falls next (Falls s) = next s
if_falls next (Breaks s) = None
if_falls next (Continues s) = None
if_falls next (Returns w s) = None
if_falls next (RunsOut printed) = None
if_falls next (Fails printed) = None

-- a call, once its arguments have words: what goes wrong in the callee, or where it comes back
abbrev pub call_fault : Frame → ℕ → Level → Blame → ℕ → Target → State → Option (List ℕ) → Option Fault
call_fault f at lower blame callee target s None = None
call_fault f at lower blame callee target s (Some arguments) =
    option_or (blame (Calls (calling f at) callee arguments) s) (told f (back_gap at target (lower (M.Calls callee arguments) s)))

abbrev pub given_fault : Frame → Level → Blame → List ℕ → Target → GivenTree → State → Option Fault
given_fault f lower blame ps target (T.Plain e) s = told f (option_or (gap_in (others ps) e s) (arrival_gap (own ps) target s))
given_fault f lower blame ps target (T.Put e) s = told f (option_or (gap_in (others ps) e s) (arrival_gap (own ps) target s))
given_fault f lower blame ps target (T.Called callee arguments) s =
    option_or (told f (first_gap (others ps) (variables s) arguments)) (call_fault f (own ps) lower blame callee target s (words arguments s))

-- where a statement goes wrong, whose places these are
abbrev mutual
  pub fault : Frame → Level → Blame → List ℕ → ActionTree → State → Option Fault
  fault f lower blame ps T.Nothing s = None
  fault f lower blame ps (T.Declare n) s = None
  fault f lower blame ps (T.Sequence ss) s = fault_all f lower blame (others ps) ss s
  fault f lower blame ps (T.Give target v) s = given_fault f lower blame ps target v s
  fault f lower blame ps (T.Store g i e) s = told f (store_gap ps g i e s)
  fault f lower blame ps (T.Update g i o e) s = told f (update_gap ps g i o e s)
  fault f lower blame ps (T.If c t u) s =
      by_word (word c s) (told f (gap_in (others ps) c s)) (fault f lower blame (behind_action t (behind c (others ps))) u s)
      (fault f lower blame (behind c (others ps)) t s)
  fault f lower blame ps (T.Loop c body last) s = blame (Turns f (others ps) c body last) s
  fault f lower blame ps T.Break s = None
  fault f lower blame ps T.Continue s = None
  fault f lower blame ps T.Leave s = None

  pub fault_all : Frame → Level → Blame → List ℕ → ActionsTree → State → Option Fault
  fault_all f lower blame ps T.Done s = None
  fault_all f lower blame ps (T.First t rest) s =
      option_or (fault f lower blame ps t s) (if_falls (fault_all f lower blame (behind_action t ps) rest) (exec lower t s))

-- where the next turns of a loop go wrong, by the outcome of what stands behind its body, which breaks nothing
abbrev pub again_fault : Frame → Blame → List ℕ → TermTree → ActionTree → ActionTree → Outcome → Option Fault
again_fault f blame ps c body last (Falls s) = blame (Turns f ps c body last) s
again_fault f blame ps c body last (Breaks s) = told f (malformed (own ps))
again_fault f blame ps c body last (Continues s) = None
again_fault f blame ps c body last (Returns w s) = None
again_fault f blame ps c body last (RunsOut printed) = None
again_fault f blame ps c body last (Fails printed) = None

-- what stands behind a loop's body, and the next turns
abbrev pub last_fault : Frame → Level → Blame → List ℕ → TermTree → ActionTree → ActionTree → State → Option Fault
last_fault f lower blame ps c body last s =
    option_or (fault f lower blame (behind_action body (behind c ps)) last s) (again_fault f blame ps c body last (exec lower last s))

-- what a loop does after its body
abbrev pub after_fault : Frame → Level → Blame → List ℕ → TermTree → ActionTree → ActionTree → Outcome → Option Fault
after_fault f lower blame ps c body last (Falls s) = last_fault f lower blame ps c body last s
after_fault f lower blame ps c body last (Breaks s) = None
after_fault f lower blame ps c body last (Continues s) = last_fault f lower blame ps c body last s
after_fault f lower blame ps c body last (Returns w s) = None
after_fault f lower blame ps c body last (RunsOut printed) = None
after_fault f lower blame ps c body last (Fails printed) = None

-- a loop from its head on
abbrev pub turns_fault : Frame → Level → Blame → List ℕ → TermTree → ActionTree → ActionTree → State → Option Fault
turns_fault f lower blame ps c body last s =
    by_word (word c s) (told f (gap_in ps c s)) None
    (option_or (fault f lower blame (behind c ps) body s) (after_fault f lower blame ps c body last (exec lower body s)))

-- a function's body and its end, whose place stands first
abbrev pub body_fault : Frame → Level → Blame → List ℕ → FunctionTree → State → Option Fault
body_fault f lower blame ps g s =
    option_or (fault_all f lower blame (others ps) g.body s) (told f (end_gap (own ps) g.ending (exec_all lower g.body s)))

-- a function that is called, where there is such a function and it takes so many arguments
abbrev pub entered_fault : Places → Level → Blame → List Site → ℕ → Option FunctionTree → List ℕ → State → Option Fault
entered_fault places lower blame callers number None arguments s = told (record { function = number; callers = callers }) (malformed 0)
entered_fault places lower blame callers number (Some g) arguments s =
    let f : Frame = record { function = number; callers = callers } in
    if length arguments == g.parameters then body_fault f lower blame (places_in places number) g (begins g arguments s)
    else told f (malformed 0)

-- where what runs below a bound goes wrong
abbrev pub blames : Places → List FunctionTree → ℕ → Blame
blames places functions zero task s = None
blames places functions (suc n) (Turns f ps c body last) s = turns_fault f (level functions n) (blames places functions n) ps c body last s
blames places functions (suc n) (Calls callers number arguments) s =
    entered_fault places (level functions n) (blames places functions n) callers number (slice_get functions number) arguments s

-- The fault of a program's run at a bound, by the places of its parts: none where it does not go wrong.
abbrev pub fault_of : Places → ProgramTree → ℕ → Option Fault
fault_of places p n =
    let lower = level p.functions n in
    let main = slice_get p.functions p.main in
    option_or (entered_fault places lower (blames places p.functions n) [] p.main main [] (start p.globals))
    (told (record { function = p.main; callers = [] }) (main_gap 0 (enters lower main [] (start p.globals))))

abbrev pub is_wrong : Shown → Bool
is_wrong Running = false
is_wrong (Ended w) = false
is_wrong Wrong = true

-- A run has a fault exactly where it is wrong.
abbrev pub HasFaultWhereWrong : Type 0
HasFaultWhereWrong = (places : Places) (p : ProgramTree) (n : ℕ) → is_some (fault_of places p n) ≡ is_wrong (crun p n).shown
