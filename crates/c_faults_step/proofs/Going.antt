-- What goes wrong behind what is put on the pile: the body of a loop, what stands behind it, one action, and a function's body.
use Rattle.std.proofs.Common.{◌≡◌, ℕ, ◌-◌, ◌<◌, List, [], ◌∷◌, ◌++◌, length, take, drop, map, Option, Some, None, sym, ap, ◌∙◌}
use Rattle.std.specs.Borrow.{Bor}
use Rattle.std.specs.Prelude.{replicate, slice_get}
use Rattle.std.specs.Option.{option_or}
use Rattle.c_program.specs.declared.action.Action.{Action}
use Rattle.c_program.specs.declared.function.Function.{Function}
use Rattle.c_program.specs.Trees.{FunctionTree}
use Rattle.c_program.specs.Views.{term_tree, action_tree, actions_tree, function_tree}
use Rattle.c_program.specs.State.{State, word}
use Rattle.c_program.specs.Meaning.{Outcome, Falls, exec, exec_all, after_body, turns_again, begins, comes_back, ends, enters, level}
use Rattle.c_faults.specs.declared.fault.Fault.{Fault}
use Rattle.c_faults.specs.Places.{own, others, behind, behind_action}
use Rattle.c_faults.specs.Changes.{back_gap, end_gap, main_gap}
use Rattle.c_faults.specs.Frames.{Frame, told, calling, Turns, work_of, Places, places_in}
use Rattle.c_faults.specs.Faults.{fault, fault_all, again_fault, last_fault, after_fault, body_fault, entered_fault, blames}
use Rattle.c_faults_step.specs.declared.item.Item.{Item}
use Rattle.c_faults_step.specs.declared.item.Item.TheVariants.{Do, Body, Last, Back}
use Rattle.c_faults_step.specs.declared.item.Cycle.{Cycle}
use Rattle.c_faults_step.specs.declared.item.Running.{Running}
use Rattle.c_faults_step.specs.declared.item.Waiting.{Waiting}
use Rattle.c_faults_step.specs.Ahead.{frame, ahead}
use Rattle.c_faults_step.proofs.Ahead.{or_assoc}
use Rattle.c_faults_step.proofs.Turning.{alone, head_turns, last_turns}
use Rattle.c_faults_step.proofs.Entered.{fresh}

-- one action
pub does_alone : (places : Places) (functions : List FunctionTree) (items new : List Item) (r : Running) (below : List (Option ℕ)) (n : ℕ) (a : Action)
    (all : Bor (List Action)) (qs : Bor (List ℕ)) (ps : List ℕ) (s : State) → qs.now ≡ ps → all.now ≡ a ∷ [] → new ≡ Do n all qs ∷ items →
    ahead places functions new r below (Falls s)
    ≡ option_or (fault (frame r items) (level functions n) (blames places functions n) ps (action_tree a) s)
    (ahead places functions items r below (exec (level functions n) (action_tree a) s))
does_alone places functions items new r below n a all qs ps s at only is =
    let lower = level functions n in
    let blame = blames places functions n in
    let rest = λ (o : Outcome). ahead places functions items r below o in
    let stands = λ (q : List ℕ) (l : List Action).
    option_or (fault_all (frame r items) lower blame q (actions_tree l) s) (rest (exec_all lower (actions_tree l) s)) in
    ap (λ (l : List Item). ahead places functions l r below (Falls s)) is
    ∙ ap (λ (q : List ℕ). stands q all.now) at
    ∙ ap (stands ps) only
    ∙ alone (frame r items) lower blame ps (action_tree a) s rest

-- a loop whose condition is not 0
pub head_goes_on : (places : Places) (functions : List FunctionTree) (items new : List Item) (r : Running) (below : List (Option ℕ)) (c : Cycle)
    (all : Bor (List Action)) (qs : Bor (List ℕ)) (s : State) (w : ℕ) → 0 < c.bound →
    word (term_tree c.condition.now) s ≡ Some w → (w ≡ 0 → ⊥) → qs.now ≡ behind (term_tree c.condition.now) c.places.now → all.now ≡ c.body.now ∷ [] →
    new ≡ Do (c.bound - 1) all qs ∷ Body (record c { bound = c.bound - 1 }) ∷ items →
    let task = Turns (frame r items) c.places.now (term_tree c.condition.now) (action_tree c.body.now) (action_tree c.last.now) in
    ahead places functions new r below (Falls s)
    ≡ option_or (blames places functions c.bound task s) (ahead places functions items r below (level functions c.bound (work_of task) s))
head_goes_on places functions items new r below c all qs s w h is more at only e =
    let lower = level functions (c.bound - 1) in
    let blame = blames places functions (c.bound - 1) in
    let f = frame r items in
    let ps = c.places.now in
    let condition = term_tree c.condition.now in
    let body = action_tree c.body.now in
    let last = action_tree c.last.now in
    let rest = λ (o : Outcome). ahead places functions items r below o in
    let behind' = λ (o : Outcome). option_or (after_fault f lower blame ps condition body last o) (rest (after_body lower condition body last o)) in
    let stands = λ (q : List ℕ) (l : List Action).
    option_or (fault_all f lower blame q (actions_tree l) s) (behind' (exec_all lower (actions_tree l) s)) in
    ap (λ (l : List Item). ahead places functions l r below (Falls s)) e
    ∙ ap (λ (q : List ℕ). stands q all.now) at
    ∙ ap (stands (behind condition ps)) only
    ∙ head_turns places functions c.bound f ps condition body last s w rest h is more

-- a loop whose body is done
pub last_goes_on : (places : Places) (functions : List FunctionTree) (items new : List Item) (r : Running) (below : List (Option ℕ)) (c : Cycle)
    (all : Bor (List Action)) (qs : Bor (List ℕ)) (s : State) →
    qs.now ≡ behind_action (action_tree c.body.now) (behind (term_tree c.condition.now) c.places.now) → all.now ≡ c.last.now ∷ [] →
    new ≡ Do c.bound all qs ∷ Last c ∷ items →
    let lower = level functions c.bound in
    let condition = term_tree c.condition.now in
    let body = action_tree c.body.now in
    let last = action_tree c.last.now in
    ahead places functions new r below (Falls s)
    ≡ option_or (last_fault (frame r items) lower (blames places functions c.bound) c.places.now condition body last s)
    (ahead places functions items r below (turns_again lower condition body last (exec lower last s)))
last_goes_on places functions items new r below c all qs s at only e =
    let lower = level functions c.bound in
    let blame = blames places functions c.bound in
    let f = frame r items in
    let ps = c.places.now in
    let condition = term_tree c.condition.now in
    let body = action_tree c.body.now in
    let last = action_tree c.last.now in
    let rest = λ (o : Outcome). ahead places functions items r below o in
    let behind' = λ (o : Outcome). option_or (again_fault f blame ps condition body last o) (rest (turns_again lower condition body last o)) in
    let stands = λ (q : List ℕ) (l : List Action).
    option_or (fault_all f lower blame q (actions_tree l) s) (behind' (exec_all lower (actions_tree l) s)) in
    ap (λ (l : List Item). ahead places functions l r below (Falls s)) e
    ∙ ap (λ (q : List ℕ). stands q all.now) at
    ∙ ap (stands (behind_action body (behind condition ps))) only
    ∙ last_turns places functions c.bound f ps condition body last s rest

-- a function's body, on the words of its arguments, with its caller behind it
pub body_goes_on : (places : Places) (functions : List FunctionTree) (items new : List Item) (caller : Waiting) (n number end stop blank : ℕ) (g : Function)
    (body : Bor (List Action)) (qs : Bor (List ℕ)) (ws : List ℕ) (locals middle after : List (Option ℕ)) (globals : List (List ℕ)) (output : List ℕ) →
    length locals ≡ end → blank ≡ g.locals - g.parameters → middle ≡ locals ++ map Some ws → after ≡ middle ++ replicate blank None →
    stop ≡ own (places_in places number) → qs.now ≡ others (places_in places number) → body.now ≡ g.body → new ≡ Do n body qs ∷ Back caller ∷ items →
    let lower = level functions n in
    let blame = blames places functions n in
    let s : State = record { locals = drop caller.base locals; globals = globals; output = output } in
    let f = frame caller.running items in
    let begun = begins (function_tree g) ws s in
    let callee = slice_get functions number in
    let r : Running = record { function = number; ending = g.ending; end = stop } in
    let within : Frame = record { function = number; callers = calling f caller.place } in
    entered_fault places lower blame (calling f caller.place) number callee ws s ≡ body_fault within lower blame (places_in places number) (function_tree g) begun →
    enters lower callee ws s ≡ ends g.ending (exec_all lower (actions_tree g.body) begun) →
    ahead places functions new r (take end after) (Falls (record { locals = drop end after; globals = globals; output = output }))
    ≡ option_or (entered_fault places lower blame (calling f caller.place) number callee ws s)
    (option_or (told f (back_gap caller.place caller.target (enters lower callee ws s)))
    (ahead places functions items caller.running (take caller.base locals) (comes_back caller.target s.locals (enters lower callee ws s))))
body_goes_on places functions items new caller n number end stop blank g body qs ws locals middle after globals output count e mid is stops at only pile blamed entered =
    let lower = level functions n in
    let blame = blames places functions n in
    let s : State = record { locals = drop caller.base locals; globals = globals; output = output } in
    let f = frame caller.running items in
    let begun = begins (function_tree g) ws s in
    let own' = places_in places number in
    let within : Frame = record { function = number; callers = calling f caller.place } in
    let stands = λ (k : ℕ) (l : List Item) (under locals' : List (Option ℕ)).
    let r : Running = record { function = number; ending = g.ending; end = k } in
    ahead places functions l r under (Falls (record { locals = locals'; globals = globals; output = output })) in
    let back = λ (o : Outcome).
    option_or (told f (back_gap caller.place caller.target o))
    (ahead places functions items caller.running (take caller.base locals) (comes_back caller.target s.locals o)) in
    let behind' = λ (o : Outcome). option_or (told within (end_gap (own own') g.ending o)) (back (ends g.ending o)) in
    let does = λ (q : List ℕ) (l : List Action).
    option_or (fault_all within lower blame q (actions_tree l) begun) (behind' (exec_all lower (actions_tree l) begun)) in
    let done = exec_all lower (actions_tree g.body) begun in
    ap (λ (k : ℕ). stands k new (take end after) (drop end after)) stops
    ∙ ap (λ (l : List Item). stands (own own') l (take end after) (drop end after)) pile
    ∙ fresh (stands (own own') (Do n body qs ∷ Back caller ∷ items)) end blank (g.locals - g.parameters) locals middle after ws count e mid is
    ∙ ap (λ (q : List ℕ). does q body.now) at
    ∙ ap (does (others own')) only
    ∙ sym
    (or_assoc (fault_all within lower blame (others own') (actions_tree g.body) begun) (told within (end_gap (own own') g.ending done)) (back (ends g.ending done)))
    ∙ ap (λ (o : Outcome). option_or (body_fault within lower blame own' (function_tree g) begun) (back o)) (sym entered)
    ∙ ap (λ (x : Option Fault). option_or x (back (enters lower (slice_get functions number) ws s))) (sym blamed)

-- main's body, with nothing behind it
pub main_goes_on : (places : Places) (functions : List FunctionTree) (items : List Item) (n number stop : ℕ) (g : Function) (body : Bor (List Action))
    (qs : Bor (List ℕ)) (locals : List (Option ℕ)) (globals cells : List (List ℕ)) →
    stop ≡ own (places_in places number) → qs.now ≡ others (places_in places number) → body.now ≡ g.body → items ≡ Do n body qs ∷ [] →
    locals ≡ replicate (g.locals - g.parameters) None → cells ≡ globals →
    let lower = level functions n in
    let r : Running = record { function = number; ending = g.ending; end = stop } in
    let f : Frame = record { function = number; callers = [] } in
    let s : State = record { locals = replicate (g.locals - g.parameters) None; globals = globals; output = [] } in
    ahead places functions items r (take 0 locals) (Falls (record { locals = drop 0 locals; globals = cells; output = [] }))
    ≡ option_or (body_fault f lower (blames places functions n) (places_in places number) (function_tree g) s)
    (told f (main_gap 0 (ends g.ending (exec_all lower (actions_tree g.body) s))))
main_goes_on places functions items n number stop g body qs locals globals cells stops at only pile blank begun =
    let lower = level functions n in
    let blame = blames places functions n in
    let f : Frame = record { function = number; callers = [] } in
    let own' = places_in places number in
    let stands = λ (k : ℕ) (l : List Item) (locals' : List (Option ℕ)) (cells' : List (List ℕ)).
    let r : Running = record { function = number; ending = g.ending; end = k } in
    ahead places functions l r (take 0 locals') (Falls (record { locals = drop 0 locals'; globals = cells'; output = [] })) in
    let fresh' = replicate (g.locals - g.parameters) None in
    let s : State = record { locals = fresh'; globals = globals; output = [] } in
    let behind' = λ (o : Outcome). option_or (told f (end_gap (own own') g.ending o)) (told f (main_gap 0 (ends g.ending o))) in
    let does = λ (q : List ℕ) (l : List Action).
    option_or (fault_all f lower blame q (actions_tree l) s) (behind' (exec_all lower (actions_tree l) s)) in
    let done = exec_all lower (actions_tree g.body) s in
    ap (λ (k : ℕ). stands k items locals cells) stops
    ∙ ap (λ (l : List Item). stands (own own') l locals cells) pile
    ∙ ap (λ (l : List (Option ℕ)). stands (own own') (Do n body qs ∷ []) l cells) blank
    ∙ ap (stands (own own') (Do n body qs ∷ []) fresh') begun
    ∙ ap (λ (q : List ℕ). does q body.now) at
    ∙ ap (does (others own')) only
    ∙ sym
    (or_assoc (fault_all f lower blame (others own') (actions_tree g.body) s) (told f (end_gap (own own') g.ending done)) (told f (main_gap 0 (ends g.ending done))))
