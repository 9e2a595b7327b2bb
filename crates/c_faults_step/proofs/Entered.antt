-- Calls, by what their arguments are worth and whether the bound is spent, and the function that begins.
use Rattle.std.proofs.Common.{◌≡◌, ℕ, ◌-◌, ◌<◌, List, ◌++◌, length, take, drop, map, Option, Some, None, sym, ap, ◌∙◌, subst, append_assoc}
use Rattle.std.specs.Prelude.{replicate, slice_get}
use Rattle.std.specs.Option.{option_or}
use Rattle.std.proofs.lemmas.List.{take_at, drop_at}
use Rattle.c_program.specs.declared.action.Target.{Target}
use Rattle.c_program.specs.Trees.{TermTree, FunctionTree}
use Rattle.c_program.specs.Trees as T
use Rattle.c_program.specs.State.{State, variables, words}
use Rattle.c_program.specs.Meaning.{Outcome, RunsOut, Level, gives, calls, comes_back, enters, level}
use Rattle.c_program.specs.Meaning as M
use Rattle.c_meaning_machine.proofs.Levels.{level_calls}
use Rattle.c_faults.specs.declared.gap.Gap.{Gap}
use Rattle.c_faults.specs.declared.fault.Fault.{Fault}
use Rattle.c_faults.specs.Places.{own, others}
use Rattle.c_faults.specs.Gaps.{first_gap}
use Rattle.c_faults.specs.Changes.{back_gap}
use Rattle.c_faults.specs.Frames.{Frame, told, calling, Calls, Blame, Places}
use Rattle.c_faults.specs.Faults.{given_fault, call_fault, entered_fault, blames}
use Rattle.c_faults_step.proofs.Ahead.{or_assoc}
use Rattle.c_faults_step.proofs.Levels.{blames_calls}

-- an argument has a gap
pub call_wrong : (f : Frame) (lower : Level) (blame : Blame) (ps : List ℕ) (target : Target) (number : ℕ) (es : List TermTree) (s : State) (g : Gap)
    (rest : Option Fault) → first_gap (others ps) (variables s) es ≡ Some g →
    told f (Some g) ≡ option_or (given_fault f lower blame ps target (T.Called number es) s) rest
call_wrong f lower blame ps target number es s g rest is =
    sym (ap (λ found. option_or (option_or (told f found) (call_fault f (own ps) lower blame number target s (words es s))) rest) is)

-- the arguments have words
given : (f : Frame) (lower : Level) (blame : Blame) (ps : List ℕ) (target : Target) (number : ℕ) (es : List TermTree) (s : State) (ws : List ℕ)
    (rest : Outcome → Option Fault) → words es s ≡ Some ws → first_gap (others ps) (variables s) es ≡ None →
    let back = lower (M.Calls number ws) s in
    option_or (given_fault f lower blame ps target (T.Called number es) s) (rest (gives lower target (T.Called number es) s))
    ≡ option_or (option_or (blame (Calls (calling f (own ps)) number ws) s) (told f (back_gap (own ps) target back))) (rest (comes_back target s.locals back))
given f lower blame ps target number es s ws rest is none =
    ap (λ found. option_or (option_or (told f found) (call_fault f (own ps) lower blame number target s (words es s))) (rest (calls lower number target s (words es s)))) none
    ∙ ap (λ w. option_or (call_fault f (own ps) lower blame number target s w) (rest (calls lower number target s w))) is

pub call_spent : (places : Places) (functions : List FunctionTree) (n : ℕ) (f : Frame) (ps : List ℕ) (target : Target) (number : ℕ) (es : List TermTree)
    (s : State) (ws : List ℕ) (rest : Outcome → Option Fault) → n ≡ 0 → words es s ≡ Some ws → first_gap (others ps) (variables s) es ≡ None →
    rest (RunsOut s.output) ≡ None →
    None ≡ option_or (given_fault f (level functions n) (blames places functions n) ps target (T.Called number es) s)
    (rest (gives (level functions n) target (T.Called number es) s))
call_spent places functions n f ps target number es s ws rest e is none over =
    let at = λ (k : ℕ).
    let back = level functions k (M.Calls number ws) s in
    option_or (option_or (blames places functions k (Calls (calling f (own ps)) number ws) s) (told f (back_gap (own ps) target back)))
    (rest (comes_back target s.locals back)) in
    sym
    (given f (level functions n) (blames places functions n) ps target number es s ws rest is none
    ∙ subst (λ k. at k ≡ None) (sym e) over)

pub call_enters : (places : Places) (functions : List FunctionTree) (n : ℕ) (f : Frame) (ps : List ℕ) (target : Target) (number : ℕ) (es : List TermTree)
    (s : State) (ws : List ℕ) (rest : Outcome → Option Fault) → 0 < n → words es s ≡ Some ws → first_gap (others ps) (variables s) es ≡ None →
    let lower = level functions (n - 1) in
    let callee = slice_get functions number in
    let back = enters lower callee ws s in
    option_or (entered_fault places lower (blames places functions (n - 1)) (calling f (own ps)) number callee ws s)
    (option_or (told f (back_gap (own ps) target back)) (rest (comes_back target s.locals back)))
    ≡ option_or (given_fault f (level functions n) (blames places functions n) ps target (T.Called number es) s)
    (rest (gives (level functions n) target (T.Called number es) s))
call_enters places functions n f ps target number es s ws rest h is none =
    let lower = level functions (n - 1) in
    let callee = slice_get functions number in
    let entered = entered_fault places lower (blames places functions (n - 1)) (calling f (own ps)) number callee ws s in
    let behind = λ (x : Option Fault) (o : Outcome). option_or (option_or x (told f (back_gap (own ps) target o))) (rest (comes_back target s.locals o)) in
    let back = enters lower callee ws s in
    sym
    (given f (level functions n) (blames places functions n) ps target number es s ws rest is none
    ∙ ap (λ x. behind x (level functions n (M.Calls number ws) s)) (blames_calls places functions n (calling f (own ps)) number ws s h)
    ∙ ap (behind entered) (level_calls functions n number ws s h)
    ∙ or_assoc entered (told f (back_gap (own ps) target back)) (rest (comes_back target s.locals back)))

-- a function's locals stand behind all that are there
pub fresh : {B : Type 0} → (stands : List (Option ℕ) → List (Option ℕ) → B) (end n m : ℕ) (old middle new : List (Option ℕ)) (ws : List ℕ) →
    length old ≡ end → n ≡ m → middle ≡ old ++ map Some ws → new ≡ middle ++ replicate n None →
    stands (take end new) (drop end new) ≡ stands old (map Some ws ++ replicate m None)
fresh stands end n m old middle new ws count e mid is =
    let locals = map Some ws ++ replicate n None in
    let all : new ≡ old ++ locals = is ∙ ap (λ l. l ++ replicate n None) mid ∙ append_assoc old (map Some ws) (replicate n None) in
    ap (λ l. stands (take end l) (drop end l)) all
    ∙ ap (λ l. stands l (drop end (old ++ locals))) (take_at old locals end count)
    ∙ ap (stands old) (drop_at old locals end count)
    ∙ ap (λ k. stands old (map Some ws ++ replicate k None)) e
