-- The first of some actions, with those behind it on the pile.
use Rattle.std.proofs.Common.{◌≡◌, ◌-◌, ◌<◌, ℕ, List, [], ◌∷◌, Option, Result, Ok, Err, IfOk, length, take, drop, get_or, sym, ap, ◌∙◌, arith, take_all}
use Rattle.std.specs.Borrow.{Bor}
use Rattle.std.specs.Option.{option_or}
use Rattle.c_program.specs.declared.action.Action.{Action}
use Rattle.c_program.specs.Trees.{FunctionTree}
use Rattle.c_program.specs.Views.{action_tree, actions_tree}
use Rattle.c_program.specs.State.{State}
use Rattle.c_program.specs.Meaning.{goes_on, exec, exec_all, level}
use Rattle.c_faults.specs.declared.fault.Fault.{Fault}
use Rattle.c_faults.specs.Places.{behind_action}
use Rattle.c_faults.specs.Frames.{Places}
use Rattle.c_faults.specs.Faults.{if_falls, fault, fault_all, blames}
use Rattle.c_faults_step.specs.declared.item.Item.{Item}
use Rattle.c_faults_step.specs.declared.item.Item.TheVariants.{Do}
use Rattle.c_faults_step.specs.declared.item.Running.{Running}
use Rattle.c_faults_step.specs.Ahead.{frame, ahead}
use Rattle.c_faults_step.proofs.Ahead.{or_assoc}

-- what does not end is its first and what stands behind it
pub first_and_rest : (l : List Action) (x : Action) → 0 < length l → x ≡ get_or l 0 x → l ≡ x ∷ take (length l - 1) (drop 1 l)
first_and_rest [] x long is = absurd (omega (arith, long))
first_and_rest (a ∷ l) x long is = ap (λ y. y ∷ l) (sym is) ∙ ap (λ t. x ∷ t) (sym (take_all (length (a ∷ l) - 1) l (omega arith)))

pub if_ok_more : {A E : Type 0} (r : Result A E) (P Q : A → Type 0) → ((x : A) → P x → Q x) → IfOk r P → IfOk r Q
if_ok_more (Ok x) P Q f h = f x h
if_ok_more (Err e) P Q f h = tt

pub first_goes_on : (places : Places) (functions : List FunctionTree) (items pushed : List Item) (r : Running) (below : List (Option ℕ)) (n : ℕ) (a : Action)
    (rest : Bor (List Action)) (qs : Bor (List ℕ)) (ps : List ℕ) (actions : List Action) (s : State) (x : Option Fault) →
    qs.now ≡ behind_action (action_tree a) ps → pushed ≡ Do n rest qs ∷ items →
    let lower = level functions n in
    let blame = blames places functions n in
    x ≡ option_or (fault (frame r pushed) lower blame ps (action_tree a) s) (ahead places functions pushed r below (exec lower (action_tree a) s)) →
    actions ≡ a ∷ rest.now →
    x ≡ option_or (fault_all (frame r items) lower blame ps (actions_tree actions) s) (ahead places functions items r below (exec_all lower (actions_tree actions) s))
first_goes_on places functions items pushed r below n a rest qs ps actions s x at pile h is =
    let lower = level functions n in
    let blame = blames places functions n in
    let f = frame r items in
    let t = action_tree a in
    let o = exec lower t s in
    let wrong = fault f lower blame ps t s in
    let behind' = ahead places functions items r below (goes_on (exec_all lower (actions_tree rest.now)) o) in
    h
    ∙ ap (λ (l : List Item). option_or (fault (frame r l) lower blame ps t s) (ahead places functions l r below o)) pile
    ∙ ap (λ (q : List ℕ). option_or wrong (option_or (if_falls (fault_all f lower blame q (actions_tree rest.now)) o) behind')) at
    ∙ sym (or_assoc wrong (if_falls (fault_all f lower blame (behind_action t ps) (actions_tree rest.now)) o) behind')
    ∙ sym (ap (λ (l : List Action). option_or (fault_all f lower blame ps (actions_tree l) s) (ahead places functions items r below (exec_all lower (actions_tree l) s))) is)
