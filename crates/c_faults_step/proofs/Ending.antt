-- The end of a body, where nothing of the running function is left to do, and what a callee gives back.
use Rattle.std.proofs.Common.{◌≡◌, ℕ, List, [], ◌∷◌, Option, Some, None, take, drop, refl, sym, ap, ◌∙◌}
use Rattle.std.specs.Option.{option_or}
use Rattle.c_program.specs.declared.action.Target.{Target}
use Rattle.c_program.specs.declared.action.Target.TheVariants.{Nowhere, Local, Global, Caller}
use Rattle.c_program.specs.declared.function.Ending.TheVariants as E
use Rattle.c_program.specs.Trees.{FunctionTree}
use Rattle.c_program.specs.State.{State}
use Rattle.c_program.specs.Meaning.{Falls, Breaks, Continues, Returns, arrives, comes_back, ends, hands_back}
use Rattle.c_faults.specs.declared.cause.Cause.TheVariants.{NoReturn}
use Rattle.c_faults.specs.declared.fault.Fault.{Fault}
use Rattle.c_faults.specs.Changes.{malformed, arrival_gap, return_gap, back_gap, end_gap, main_gap}
use Rattle.c_faults.specs.Frames.{told, Places}
use Rattle.c_faults_step.specs.declared.item.Item.{Item}
use Rattle.c_faults_step.specs.declared.item.Item.TheVariants.{Do, Body, Last, Back}
use Rattle.c_faults_step.specs.declared.item.Running.{Running}
use Rattle.c_faults_step.specs.Ahead.{frame, ahead}
use Rattle.c_faults_step.specs.Ahead.{IsAtEnd}

-- a function without a value returns at its end
pub end_returns : (places : Places) (functions : List FunctionTree) (items : List Item) (r : Running) (below : List (Option ℕ)) (s : State) →
    IsAtEnd items → r.ending ≡ E.Returns → ahead places functions items r below (Falls s) ≡ ahead places functions items r below (Returns None s)
end_returns places functions [] r below s h e =
    ap (λ k. option_or (told (frame r []) (end_gap r.end k (Falls s))) (told (frame r []) (main_gap 0 (ends k (Falls s))))) e
end_returns places functions (Do n actions ps ∷ items) r below s h e = absurd h
end_returns places functions (Body c ∷ items) r below s h e = absurd h
end_returns places functions (Last c ∷ items) r below s h e = absurd h
end_returns places functions (Back w ∷ items) r below s h e =
    ap
    (λ k. option_or (told (frame r (Back w ∷ items)) (end_gap r.end k (Falls s)))
    (option_or (told (frame w.running items) (back_gap w.place w.target (ends k (Falls s))))
    (ahead places functions items w.running (take w.base below) (comes_back w.target (drop w.base below) (ends k (Falls s))))))
    e

-- main returns 0 at its end
pub end_returns_zero : (places : Places) (functions : List FunctionTree) (items : List Item) (r : Running) (below : List (Option ℕ)) (s : State) →
    IsAtEnd items → r.ending ≡ E.ReturnsZero → ahead places functions items r below (Falls s) ≡ ahead places functions items r below (Returns (Some 0) s)
end_returns_zero places functions [] r below s h e =
    ap (λ k. option_or (told (frame r []) (end_gap r.end k (Falls s))) (told (frame r []) (main_gap 0 (ends k (Falls s))))) e
end_returns_zero places functions (Do n actions ps ∷ items) r below s h e = absurd h
end_returns_zero places functions (Body c ∷ items) r below s h e = absurd h
end_returns_zero places functions (Last c ∷ items) r below s h e = absurd h
end_returns_zero places functions (Back w ∷ items) r below s h e =
    ap
    (λ k. option_or (told (frame r (Back w ∷ items)) (end_gap r.end k (Falls s)))
    (option_or (told (frame w.running items) (back_gap w.place w.target (ends k (Falls s))))
    (ahead places functions items w.running (take w.base below) (comes_back w.target (drop w.base below) (ends k (Falls s))))))
    e

-- another function with a value goes wrong there
pub end_wrong : (places : Places) (functions : List FunctionTree) (items : List Item) (r : Running) (below : List (Option ℕ)) (s : State) →
    IsAtEnd items → r.ending ≡ E.GoesWrong →
    ahead places functions items r below (Falls s) ≡ told (frame r items) (Some (record { cause = NoReturn; place = r.end }))
end_wrong places functions [] r below s h e =
    ap (λ k. option_or (told (frame r []) (end_gap r.end k (Falls s))) (told (frame r []) (main_gap 0 (ends k (Falls s))))) e
end_wrong places functions (Do n actions ps ∷ items) r below s h e = absurd h
end_wrong places functions (Body c ∷ items) r below s h e = absurd h
end_wrong places functions (Last c ∷ items) r below s h e = absurd h
end_wrong places functions (Back w ∷ items) r below s h e =
    ap
    (λ k. option_or (told (frame r (Back w ∷ items)) (end_gap r.end k (Falls s)))
    (option_or (told (frame w.running items) (back_gap w.place w.target (ends k (Falls s))))
    (ahead places functions items w.running (take w.base below) (comes_back w.target (drop w.base below) (ends k (Falls s))))))
    e

-- what leaves the whole, but no loop of it, stands for nothing
pub stops_breaks : (places : Places) (functions : List FunctionTree) (left old : List Item) (r : Running) (below : List (Option ℕ)) (s : State)
    (whole : Option Fault) → left ≡ [] → old ≡ [] → ahead places functions old r below (Breaks s) ≡ whole → told (frame r left) (malformed r.end) ≡ whole
stops_breaks places functions left old r below s whole e e' so =
    ap (λ (l : List Item). told (frame r l) (malformed r.end)) e ∙ sym (ap (λ (l : List Item). ahead places functions l r below (Breaks s)) e') ∙ so

pub stops_continues : (places : Places) (functions : List FunctionTree) (left old : List Item) (r : Running) (below : List (Option ℕ)) (s : State)
    (whole : Option Fault) → left ≡ [] → old ≡ [] → ahead places functions old r below (Continues s) ≡ whole → told (frame r left) (malformed r.end) ≡ whole
stops_continues places functions left old r below s whole e e' so =
    ap (λ (l : List Item). told (frame r l) (malformed r.end)) e ∙ sym (ap (λ (l : List Item). ahead places functions l r below (Continues s)) e') ∙ so

-- main returns no word
pub stops_returns : (places : Places) (functions : List FunctionTree) (left old : List Item) (r : Running) (below : List (Option ℕ)) (w : Option ℕ) (s : State)
    (whole : Option Fault) → w ≡ None → left ≡ [] → old ≡ [] → ahead places functions old r below (Returns w s) ≡ whole → told (frame r left) (malformed 0) ≡ whole
stops_returns places functions left old r below w s whole none e e' so =
    ap (λ (l : List Item). told (frame r l) (malformed 0)) e
    ∙ sym (ap (λ (l : List Item). ahead places functions l r below (Returns w s)) e' ∙ ap (λ (v : Option ℕ). ahead places functions [] r below (Returns v s)) none)
    ∙ so

-- a word that is given back arrives
pub return_some : (at : ℕ) (target : Target) (w : ℕ) (s : State) → return_gap at target (Some w) s ≡ arrival_gap at target s
return_some at Nowhere w s = refl
return_some at (Local n) w s = refl
return_some at (Global g) w s = refl
return_some at Caller w s = refl

pub hands_some : (target : Target) (w : ℕ) (s : State) → hands_back target (Some w) s ≡ arrives target w s
hands_some Nowhere w s = refl
hands_some (Local n) w s = refl
hands_some (Global g) w s = refl
hands_some Caller w s = refl

-- whether a word arrives does not rest on what is printed
pub arrival_printed : (at : ℕ) (target : Target) (s : State) (output : List ℕ) → arrival_gap at target (record s { output = output }) ≡ arrival_gap at target s
arrival_printed at Nowhere s output = refl
arrival_printed at (Local n) s output = refl
arrival_printed at (Global g) s output = refl
arrival_printed at Caller s output = refl
