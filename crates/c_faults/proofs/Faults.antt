-- A run has a fault exactly where it is wrong: by each part of its meaning.
use Rattle.std.proofs.Common.{◌≡◌, ℕ, zero, suc, cond, ◌==◌, Bool, true, false, List, [], length, Option, Some, None, is_some, slice_get, refl, sym, ap, ◌∙◌, arith}
use Rattle.std.proofs.lemmas.Bool.{ne_eqb}
use Rattle.std.specs.Option.{option_or}
use Rattle.c_program.specs.declared.action.Target.{Target}
use Rattle.c_program.specs.Trees.{TermTree, GivenTree, ActionTree, ActionsTree, FunctionTree, ProgramTree}
use Rattle.c_program.specs.Trees as T
use Rattle.c_program.specs.State.{State, word, words, variables}
use Rattle.c_program.specs.Meaning.{Outcome, Falls, Breaks, Continues, Returns, RunsOut, Fails, Level, goes_on, branches, calls, gives, exec, exec_all, turns_again, after_body, turns, begins, enters, level, shown, start, crun}
use Rattle.c_program.specs.Meaning as M
use Rattle.c_faults.specs.declared.gap.Gap.{Gap}
use Rattle.c_faults.specs.declared.fault.Site.{Site}
use Rattle.c_faults.specs.declared.fault.Fault.{Fault}
use Rattle.c_faults.specs.Places.{own, others, behind, behind_action}
use Rattle.c_faults.specs.Gaps.{by_word, first_gap}
use Rattle.c_faults.specs.Changes.{gap_in, malformed, main_gap}
use Rattle.c_faults.specs.Frames.{Frame, told, calling, Task, Turns, Calls, work_of, Blame, Places, places_in}
use Rattle.c_faults.specs.Faults.{if_falls, call_fault, given_fault, fault, fault_all, again_fault, last_fault, after_fault, turns_fault, body_fault, entered_fault, blames, is_wrong, HasFaultWhereWrong}
use Rattle.c_faults.proofs.Gaps.{Tells, not_none, not_both, gap-tells, first-tells}
use Rattle.c_faults.proofs.Changes.{fails, Explains, store-explains, update-explains, yields-explains, puts-explains, back-explains, end-explains}

-- what runs at a level has a fault exactly where it fails
abbrev pub Blames : Blame → Level → Type 0
Blames blame lower = (task : Task) (s : State) → Explains (blame task s) (lower (work_of task) s)

told-same : (f : Frame) (g : Option Gap) → is_some (told f g) ≡ is_some g
told-same f None = refl
told-same f (Some g) = refl

branch-explains : (s : State) (w : Option ℕ) (p q r : Option Fault) (a b : Outcome) → Tells p w → Explains q a → Explains r b →
    Explains (by_word w p r q) (branches s w a b)
branch-explains s None p q r a b e f g = e
branch-explains s (Some zero) p q r a b e f g = g
branch-explains s (Some (suc w)) p q r a b e f g = f ∙ ap (λ t. fails (cond t b a)) (sym (ne_eqb (suc w) 0 (omega arith)))

call-explains : (f : Frame) (at : ℕ) (lower : Level) (blame : Blame) → Blames blame lower → (p : Option Gap) (callee : ℕ) (target : Target) (s : State)
    (arguments : Option (List ℕ)) → Tells p arguments →
    Explains (option_or (told f p) (call_fault f at lower blame callee target s arguments)) (calls lower callee target s arguments)
call-explains f at lower blame known None callee target s None e = not_none e
call-explains f at lower blame known (Some p) callee target s None e = refl
call-explains f at lower blame known (Some p) callee target s (Some arguments) e = not_both e
call-explains f at lower blame known None callee target s (Some arguments) e =
    let task = Calls (calling f at) callee arguments in
    back-explains (blame task s) (told f) (told-same f) at target s.locals (lower (M.Calls callee arguments) s) (known task s)

given-explains : (f : Frame) (lower : Level) (blame : Blame) → Blames blame lower → (ps : List ℕ) (target : Target) (v : GivenTree) (s : State) →
    Explains (given_fault f lower blame ps target v s) (gives lower target v s)
given-explains f lower blame known ps target (T.Plain e) s =
    told-same f _ ∙ yields-explains (gap_in (others ps) e s) (own ps) target s (word e s) (gap-tells (others ps) (variables s) e)
given-explains f lower blame known ps target (T.Put e) s =
    told-same f _ ∙ puts-explains (gap_in (others ps) e s) (own ps) target s (word e s) (gap-tells (others ps) (variables s) e)
given-explains f lower blame known ps target (T.Called callee arguments) s =
    call-explains f (own ps) lower blame known (first_gap (others ps) (variables s) arguments) callee target s (words arguments s)
    (first-tells (others ps) s arguments)

goes_on-explains : (p : Option Fault) (next : State → Option Fault) (then : State → Outcome) → ((t : State) → Explains (next t) (then t)) →
    (o : Outcome) → Explains p o → Explains (option_or p (if_falls next o)) (goes_on then o)
goes_on-explains None next then known (Falls s) e = known s
goes_on-explains None next then known (Breaks s) e = refl
goes_on-explains None next then known (Continues s) e = refl
goes_on-explains None next then known (Returns w s) e = refl
goes_on-explains None next then known (RunsOut printed) e = refl
goes_on-explains None next then known (Fails printed) e = not_none e
goes_on-explains (Some p) next then known (Falls s) e = not_both e
goes_on-explains (Some p) next then known (Breaks s) e = not_both e
goes_on-explains (Some p) next then known (Continues s) e = not_both e
goes_on-explains (Some p) next then known (Returns w s) e = not_both e
goes_on-explains (Some p) next then known (RunsOut printed) e = not_both e
goes_on-explains (Some p) next then known (Fails printed) e = refl

mutual
  pub exec-explains : (f : Frame) (lower : Level) (blame : Blame) → Blames blame lower → (ps : List ℕ) (t : ActionTree) (s : State) →
      Explains (fault f lower blame ps t s) (exec lower t s)
  exec-explains f lower blame known ps T.Nothing s = refl
  exec-explains f lower blame known ps (T.Declare n) s = refl
  exec-explains f lower blame known ps (T.Sequence ss) s = all-explains f lower blame known (others ps) ss s
  exec-explains f lower blame known ps (T.Give target v) s = given-explains f lower blame known ps target v s
  exec-explains f lower blame known ps (T.Store g i e) s = told-same f _ ∙ store-explains ps g i e s
  exec-explains f lower blame known ps (T.Update g i o e) s = told-same f _ ∙ update-explains ps g i o e s
  exec-explains f lower blame known ps (T.If c t u) s =
      let qs = behind c (others ps) in
      branch-explains s (word c s) (told f (gap_in (others ps) c s)) (fault f lower blame qs t s)
      (fault f lower blame (behind_action t qs) u s) (exec lower t s) (exec lower u s)
      (told-same f _ ∙ gap-tells (others ps) (variables s) c) (exec-explains f lower blame known qs t s)
      (exec-explains f lower blame known (behind_action t qs) u s)
  exec-explains f lower blame known ps (T.Loop c body last) s = known (Turns f (others ps) c body last) s
  exec-explains f lower blame known ps T.Break s = refl
  exec-explains f lower blame known ps T.Continue s = refl
  exec-explains f lower blame known ps T.Leave s = refl

  pub all-explains : (f : Frame) (lower : Level) (blame : Blame) → Blames blame lower → (ps : List ℕ) (ts : ActionsTree) (s : State) →
      Explains (fault_all f lower blame ps ts s) (exec_all lower ts s)
  all-explains f lower blame known ps T.Done s = refl
  all-explains f lower blame known ps (T.First t rest) s =
      goes_on-explains (fault f lower blame ps t s) (fault_all f lower blame (behind_action t ps) rest) (exec_all lower rest)
      (all-explains f lower blame known (behind_action t ps) rest) (exec lower t s) (exec-explains f lower blame known ps t s)

again-explains : (f : Frame) (lower : Level) (blame : Blame) → Blames blame lower → (ps : List ℕ) (c : TermTree) (body last : ActionTree)
    (p : Option Fault) (o : Outcome) → Explains p o → Explains (option_or p (again_fault f blame ps c body last o)) (turns_again lower c body last o)
again-explains f lower blame known ps c body last None (Falls s) e = known (Turns f ps c body last) s
again-explains f lower blame known ps c body last None (Breaks s) e = refl
again-explains f lower blame known ps c body last None (Continues s) e = refl
again-explains f lower blame known ps c body last None (Returns w s) e = refl
again-explains f lower blame known ps c body last None (RunsOut printed) e = refl
again-explains f lower blame known ps c body last None (Fails printed) e = not_none e
again-explains f lower blame known ps c body last (Some p) (Falls s) e = not_both e
again-explains f lower blame known ps c body last (Some p) (Breaks s) e = not_both e
again-explains f lower blame known ps c body last (Some p) (Continues s) e = not_both e
again-explains f lower blame known ps c body last (Some p) (Returns w s) e = not_both e
again-explains f lower blame known ps c body last (Some p) (RunsOut printed) e = not_both e
again-explains f lower blame known ps c body last (Some p) (Fails printed) e = refl

last-explains : (f : Frame) (lower : Level) (blame : Blame) → Blames blame lower → (ps : List ℕ) (c : TermTree) (body last : ActionTree) (s : State) →
    Explains (last_fault f lower blame ps c body last s) (turns_again lower c body last (exec lower last s))
last-explains f lower blame known ps c body last s =
    let qs = behind_action body (behind c ps) in
    again-explains f lower blame known ps c body last (fault f lower blame qs last s) (exec lower last s)
    (exec-explains f lower blame known qs last s)

after-explains : (f : Frame) (lower : Level) (blame : Blame) → Blames blame lower → (ps : List ℕ) (c : TermTree) (body last : ActionTree)
    (p : Option Fault) (o : Outcome) → Explains p o →
    Explains (option_or p (after_fault f lower blame ps c body last o)) (after_body lower c body last o)
after-explains f lower blame known ps c body last None (Falls s) e = last-explains f lower blame known ps c body last s
after-explains f lower blame known ps c body last None (Breaks s) e = refl
after-explains f lower blame known ps c body last None (Continues s) e = last-explains f lower blame known ps c body last s
after-explains f lower blame known ps c body last None (Returns w s) e = refl
after-explains f lower blame known ps c body last None (RunsOut printed) e = refl
after-explains f lower blame known ps c body last None (Fails printed) e = not_none e
after-explains f lower blame known ps c body last (Some p) (Falls s) e = not_both e
after-explains f lower blame known ps c body last (Some p) (Breaks s) e = not_both e
after-explains f lower blame known ps c body last (Some p) (Continues s) e = not_both e
after-explains f lower blame known ps c body last (Some p) (Returns w s) e = not_both e
after-explains f lower blame known ps c body last (Some p) (RunsOut printed) e = not_both e
after-explains f lower blame known ps c body last (Some p) (Fails printed) e = refl

turns-explains : (f : Frame) (lower : Level) (blame : Blame) → Blames blame lower → (ps : List ℕ) (c : TermTree) (body last : ActionTree) (s : State) →
    Explains (turns_fault f lower blame ps c body last s) (turns lower c body last s)
turns-explains f lower blame known ps c body last s =
    let qs = behind c ps in
    let turned = exec lower body s in
    branch-explains s (word c s) (told f (gap_in ps c s))
    (option_or (fault f lower blame qs body s) (after_fault f lower blame ps c body last turned)) None
    (after_body lower c body last turned) (Falls s) (told-same f _ ∙ gap-tells ps (variables s) c)
    (after-explains f lower blame known ps c body last (fault f lower blame qs body s) turned (exec-explains f lower blame known qs body s)) refl

entered-explains : (places : Places) (lower : Level) (blame : Blame) → Blames blame lower → (callers : List Site) (number : ℕ)
    (g : Option FunctionTree) (arguments : List ℕ) (s : State) →
    Explains (entered_fault places lower blame callers number g arguments s) (enters lower g arguments s)
entered-explains places lower blame known callers number None arguments s = refl
entered-explains places lower blame known callers number (Some g) arguments s = at (length arguments == g.parameters)
  where
    f : Frame
    f = record { function = number; callers = callers }

    ps : List ℕ
    ps = places_in places number

    here : State
    here = begins g arguments s

    at : (b : Bool) →
        Explains (cond b (body_fault f lower blame ps g here) (told f (malformed 0)))
        (cond b (M.ends g.ending (exec_all lower g.body here)) (Fails s.output))
    at true =
        end-explains (fault_all f lower blame (others ps) g.body here) (told f) (told-same f) (own ps) g.ending
        (exec_all lower g.body here) (all-explains f lower blame known (others ps) g.body here)
    at false = refl

pub blames-explains : (places : Places) (functions : List FunctionTree) (n : ℕ) → Blames (blames places functions n) (level functions n)
blames-explains places functions zero (Turns f ps c body last) s = refl
blames-explains places functions zero (Calls callers number arguments) s = refl
blames-explains places functions (suc n) (Turns f ps c body last) s =
    turns-explains f (level functions n) (blames places functions n) (blames-explains places functions n) ps c body last s
blames-explains places functions (suc n) (Calls callers number arguments) s =
    entered-explains places (level functions n) (blames places functions n) (blames-explains places functions n) callers number
    (slice_get functions number) arguments s

main-explains : (f : Frame) (p : Option Fault) (o : Outcome) → Explains p o → is_some (option_or p (told f (main_gap 0 o))) ≡ is_wrong (shown o).shown
main-explains f None (Falls s) e = refl
main-explains f None (Breaks s) e = refl
main-explains f None (Continues s) e = refl
main-explains f None (Returns None s) e = refl
main-explains f None (Returns (Some w) s) e = refl
main-explains f None (RunsOut printed) e = refl
main-explains f None (Fails printed) e = not_none e
main-explains f (Some x) (Falls s) e = not_both e
main-explains f (Some x) (Breaks s) e = not_both e
main-explains f (Some x) (Continues s) e = not_both e
main-explains f (Some x) (Returns w s) e = not_both e
main-explains f (Some x) (RunsOut printed) e = not_both e
main-explains f (Some x) (Fails printed) e = refl

pub wrong-has-fault : HasFaultWhereWrong
wrong-has-fault places p n =
    let lower = level p.functions n in
    let blame = blames places p.functions n in
    let main = slice_get p.functions p.main in
    let begun = start p.globals in
    main-explains (record { function = p.main; callers = [] }) (entered_fault places lower blame [] p.main main [] begun) (enters lower main [] begun)
    (entered-explains places lower blame (blames-explains places p.functions n) [] p.main main [] begun)
