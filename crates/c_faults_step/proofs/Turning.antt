-- Loops from their head on, by whether the bound is spent and what the condition is, and the only action of a list.
use Rattle.std.proofs.Common.{◌≡◌, ℕ, ◌-◌, ◌<◌, List, Option, Some, None, sym, ap, ◌∙◌, subst}
use Rattle.std.specs.Option.{option_or}
use Rattle.c_program.specs.Trees.{TermTree, ActionTree, FunctionTree}
use Rattle.c_program.specs.Trees as T
use Rattle.c_program.specs.State.{State, word}
use Rattle.c_program.specs.Meaning.{Outcome, Falls, RunsOut, Level, exec, exec_all, after_body, turns_again, branches, level}
use Rattle.c_program.specs.Meaning as M
use Rattle.c_meaning_machine.proofs.Levels.{goes_on_to_nothing, level_turns}
use Rattle.c_faults.specs.declared.gap.Gap.{Gap}
use Rattle.c_faults.specs.declared.fault.Fault.{Fault}
use Rattle.c_faults.specs.Places.{behind, behind_action}
use Rattle.c_faults.specs.Changes.{gap_in}
use Rattle.c_faults.specs.Frames.{Frame, told, Task, Turns, work_of, Blame, Places}
use Rattle.c_faults.specs.Faults.{fault, fault_all, again_fault, last_fault, after_fault, blames}
use Rattle.c_faults_step.proofs.Ahead.{or_assoc, or_none, falls_none}
use Rattle.c_faults_step.proofs.Levels.{blames_turns, word_none, word_zero, word_more, branch_zero, branch_more}

pub one_fault : (f : Frame) (lower : Level) (blame : Blame) (ps : List ℕ) (t : ActionTree) (s : State) →
    fault_all f lower blame ps (T.First t T.Done) s ≡ fault f lower blame ps t s
one_fault f lower blame ps t s = ap (option_or (fault f lower blame ps t s)) (falls_none (exec lower t s)) ∙ or_none (fault f lower blame ps t s)

pub one_exec : (lower : Level) (t : ActionTree) (s : State) → exec_all lower (T.First t T.Done) s ≡ exec lower t s
one_exec lower t s = goes_on_to_nothing lower (exec lower t s)

-- what is done alone, and what is behind it
pub alone : (f : Frame) (lower : Level) (blame : Blame) (ps : List ℕ) (t : ActionTree) (s : State) (rest : Outcome → Option Fault) →
    option_or (fault_all f lower blame ps (T.First t T.Done) s) (rest (exec_all lower (T.First t T.Done) s))
    ≡ option_or (fault f lower blame ps t s) (rest (exec lower t s))
alone f lower blame ps t s rest =
    ap (λ x. option_or x (rest (exec_all lower (T.First t T.Done) s))) (one_fault f lower blame ps t s)
    ∙ ap (λ o. option_or (fault f lower blame ps t s) (rest o)) (one_exec lower t s)

pub head_spent : (places : Places) (functions : List FunctionTree) (n : ℕ) (task : Task) (s : State) (rest : Outcome → Option Fault) → n ≡ 0 →
    rest (RunsOut s.output) ≡ None → None ≡ option_or (blames places functions n task s) (rest (level functions n (work_of task) s))
head_spent places functions n task s rest e none =
    subst (λ k. None ≡ option_or (blames places functions k task s) (rest (level functions k (work_of task) s))) (sym e) (sym none)

pub head_wrong : (places : Places) (functions : List FunctionTree) (n : ℕ) (f : Frame) (ps : List ℕ) (c : TermTree) (body last : ActionTree) (s : State)
    (g : Gap) (rest : Outcome → Option Fault) → 0 < n → word c s ≡ None → gap_in ps c s ≡ Some g →
    told f (Some g) ≡ option_or (blames places functions n (Turns f ps c body last) s) (rest (level functions n (M.Turns c body last) s))
head_wrong places functions n f ps c body last s g rest h none is =
    let lower = level functions (n - 1) in
    let blame = blames places functions (n - 1) in
    let there = option_or (fault f lower blame (behind c ps) body s) (after_fault f lower blame ps c body last (exec lower body s)) in
    let wrong = blames_turns places functions n f ps c body last s h ∙ word_none (word c s) (told f (gap_in ps c s)) None there none ∙ ap (told f) is in
    sym (ap (λ x. option_or x (rest (level functions n (M.Turns c body last) s))) wrong)

pub head_leaves : (places : Places) (functions : List FunctionTree) (n : ℕ) (f : Frame) (ps : List ℕ) (c : TermTree) (body last : ActionTree) (s : State)
    (rest : Outcome → Option Fault) → 0 < n → word c s ≡ Some 0 →
    rest (Falls s) ≡ option_or (blames places functions n (Turns f ps c body last) s) (rest (level functions n (M.Turns c body last) s))
head_leaves places functions n f ps c body last s rest h zeroed =
    let lower = level functions (n - 1) in
    let blame = blames places functions (n - 1) in
    let there = option_or (fault f lower blame (behind c ps) body s) (after_fault f lower blame ps c body last (exec lower body s)) in
    let over = blames_turns places functions n f ps c body last s h ∙ word_zero (word c s) (told f (gap_in ps c s)) None there zeroed in
    let done = level_turns functions n c body last s h ∙ branch_zero s (word c s) (after_body lower c body last (exec lower body s)) (Falls s) zeroed in
    sym (ap (λ x. option_or x (rest (level functions n (M.Turns c body last) s))) over ∙ ap rest done)

pub head_turns : (places : Places) (functions : List FunctionTree) (n : ℕ) (f : Frame) (ps : List ℕ) (c : TermTree) (body last : ActionTree) (s : State)
    (w : ℕ) (rest : Outcome → Option Fault) → 0 < n → word c s ≡ Some w → (w ≡ 0 → ⊥) →
    let lower = level functions (n - 1) in
    let blame = blames places functions (n - 1) in
    let done = exec_all lower (T.First body T.Done) s in
    option_or (fault_all f lower blame (behind c ps) (T.First body T.Done) s)
    (option_or (after_fault f lower blame ps c body last done) (rest (after_body lower c body last done)))
    ≡ option_or (blames places functions n (Turns f ps c body last) s) (rest (level functions n (M.Turns c body last) s))
head_turns places functions n f ps c body last s w rest h is more =
    let lower = level functions (n - 1) in
    let blame = blames places functions (n - 1) in
    let first = fault f lower blame (behind c ps) body s in
    let later = after_fault f lower blame ps c body last in
    let there = option_or first (later (exec lower body s)) in
    let turned = blames_turns places functions n f ps c body last s h ∙ word_more (word c s) w (told f (gap_in ps c s)) None there is more in
    let done = level_turns functions n c body last s h ∙ branch_more s (word c s) w (after_body lower c body last (exec lower body s)) (Falls s) is more in
    alone f lower blame (behind c ps) body s (λ o. option_or (later o) (rest (after_body lower c body last o)))
    ∙ sym (or_assoc first (later (exec lower body s)) (rest (after_body lower c body last (exec lower body s))))
    ∙ sym (ap (λ x. option_or x (rest (level functions n (M.Turns c body last) s))) turned ∙ ap (λ o. option_or there (rest o)) done)

-- what stands behind a loop's body, and then the loop
pub last_turns : (places : Places) (functions : List FunctionTree) (n : ℕ) (f : Frame) (ps : List ℕ) (c : TermTree) (body last : ActionTree) (s : State)
    (rest : Outcome → Option Fault) →
    let lower = level functions n in
    let blame = blames places functions n in
    let done = exec_all lower (T.First last T.Done) s in
    option_or (fault_all f lower blame (behind_action body (behind c ps)) (T.First last T.Done) s)
    (option_or (again_fault f blame ps c body last done) (rest (turns_again lower c body last done)))
    ≡ option_or (last_fault f lower blame ps c body last s) (rest (turns_again lower c body last (exec lower last s)))
last_turns places functions n f ps c body last s rest =
    let lower = level functions n in
    let blame = blames places functions n in
    let qs = behind_action body (behind c ps) in
    let later = again_fault f blame ps c body last in
    alone f lower blame qs last s (λ o. option_or (later o) (rest (turns_again lower c body last o)))
    ∙ sym (or_assoc (fault f lower blame qs last s) (later (exec lower last s)) (rest (turns_again lower c body last (exec lower last s))))
