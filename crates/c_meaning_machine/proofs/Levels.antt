-- What runs with a bound, by whether it is spent.
use Rattle.std.proofs.Common.{◌≡◌, ℕ, zero, suc, ◌+◌, ◌-◌, ◌<◌, ◌==◌, cond, Bool, true, false, List, Option, Some, None, refl, sym, ap, ◌∙◌, subst, arith}
use Rattle.std.specs.Prelude.{slice_get, not}
use Rattle.std.specs.Option.{option_map}
use Rattle.c_program.specs.Trees.{TermTree, ActionTree, FunctionTree}
use Rattle.c_program.specs.State.{State, word}
use Rattle.c_program.specs.Meaning.{Outcome, Falls, Breaks, Continues, Returns, RunsOut, Fails, Work, Turns, Calls, Level, goes_on, branches, exec, after_body, turns, enters, level}
use Rattle.c_meaning_machine.specs.AtOnce.{holds}
use Rattle.c_meaning_machine.specs.Costs.{level_cost, cost, behind_cost, body_cost}

some_same : (a b : Bool) → Some a ≡ Some b → a ≡ b
some_same a b e = cc

not_false : (b : Bool) → false ≡ not b → b ≡ true
not_false true e = refl
not_false false e = cc

not_true : (b : Bool) → true ≡ not b → b ≡ false
not_true true e = cc
not_true false e = refl

pub level_none : (functions : List FunctionTree) (n : ℕ) (work : Work) (s : State) → n ≡ 0 → level functions n work s ≡ RunsOut s.output
level_none functions n work s e = subst (λ k. level functions k work s ≡ RunsOut s.output) (sym e) refl

less : (n : ℕ) → suc n - 1 ≡ n
less n = omega arith

pub level_turns : (functions : List FunctionTree) (n : ℕ) (c : TermTree) (body behind : ActionTree) (s : State) → 0 < n → level functions n (Turns c body behind) s ≡ turns (level functions (n - 1)) c body behind s
level_turns functions zero c body behind s h = absurd (omega arith)
level_turns functions (suc n) c body behind s h = ap (λ k. turns (level functions k) c body behind s) (sym (less n))

pub level_calls : (functions : List FunctionTree) (n f : ℕ) (arguments : List ℕ) (s : State) → 0 < n → level functions n (Calls f arguments) s ≡ enters (level functions (n - 1)) (slice_get functions f) arguments s
level_calls functions zero f arguments s h = absurd (omega arith)
level_calls functions (suc n) f arguments s h = ap (λ k. enters (level functions k) (slice_get functions f) arguments s) (sym (less n))

pub cost_turns : (functions : List FunctionTree) (n : ℕ) (c : TermTree) (body behind : ActionTree) → 0 < n →
    level_cost functions n (Turns c body behind) ≡ 2 + (cost (level_cost functions (n - 1)) body + behind_cost (level_cost functions (n - 1)) c body behind)
cost_turns functions zero c body behind h = absurd (omega arith)
cost_turns functions (suc n) c body behind h = ap (λ k. 2 + (cost (level_cost functions k) body + behind_cost (level_cost functions k) c body behind)) (sym (less n))

pub cost_calls : (functions : List FunctionTree) (n f : ℕ) (arguments : List ℕ) → 0 < n → level_cost functions n (Calls f arguments) ≡ 2 + body_cost (level_cost functions (n - 1)) (slice_get functions f)
cost_calls functions zero f arguments h = absurd (omega arith)
cost_calls functions (suc n) f arguments h = ap (λ k. 2 + body_cost (level_cost functions k) (slice_get functions f)) (sym (less n))

-- every work costs something
pub cost_some : (functions : List FunctionTree) (n : ℕ) (work : Work) → 0 < level_cost functions n work
cost_some functions zero work = omega arith
cost_some functions (suc n) (Turns c body behind) = omega arith
cost_some functions (suc n) (Calls f arguments) = omega arith

-- nothing behind an outcome changes it
pub goes_on_to_nothing : (lower : Level) (o : Outcome) → goes_on Falls o ≡ o
goes_on_to_nothing lower (Falls s) = refl
goes_on_to_nothing lower (Breaks s) = refl
goes_on_to_nothing lower (Continues s) = refl
goes_on_to_nothing lower (Returns w s) = refl
goes_on_to_nothing lower (RunsOut printed) = refl
goes_on_to_nothing lower (Fails printed) = refl

-- a turn, by whether its condition holds
branches_none : (s : State) (w : Option ℕ) (a b : Outcome) → None ≡ option_map holds w → branches s w a b ≡ Fails s.output
branches_none s None a b e = refl
branches_none s (Some w) a b e = cc

branches_false : (s : State) (w : Option ℕ) (a b : Outcome) → Some false ≡ option_map holds w → branches s w a b ≡ b
branches_false s None a b e = cc
branches_false s (Some w) a b e =
    let no_more : (w == 0) ≡ true = not_false (w == 0) (some_same false (holds w) e) in
    ap (λ t. cond t b a) no_more

branches_true : (s : State) (w : Option ℕ) (a b : Outcome) → Some true ≡ option_map holds w → branches s w a b ≡ a
branches_true s None a b e = cc
branches_true s (Some w) a b e =
    let more : (w == 0) ≡ false = not_true (w == 0) (some_same true (holds w) e) in
    ap (λ t. cond t b a) more

pub turn_fails : (functions : List FunctionTree) (n : ℕ) (c : TermTree) (body behind : ActionTree) (s : State) → 0 < n → None ≡ option_map holds (word c s) → level functions n (Turns c body behind) s ≡ Fails s.output
turn_fails functions n c body behind s h e = level_turns functions n c body behind s h ∙ branches_none s (word c s) _ _ e

pub turn_falls : (functions : List FunctionTree) (n : ℕ) (c : TermTree) (body behind : ActionTree) (s : State) → 0 < n → Some false ≡ option_map holds (word c s) → level functions n (Turns c body behind) s ≡ Falls s
turn_falls functions n c body behind s h e =
    level_turns functions n c body behind s h ∙ branches_false s (word c s) (after_body (level functions (n - 1)) c body behind (exec (level functions (n - 1)) body s)) (Falls s) e

pub turn_begins : (functions : List FunctionTree) (n : ℕ) (c : TermTree) (body behind : ActionTree) (s : State) → 0 < n → Some true ≡ option_map holds (word c s) →
    level functions n (Turns c body behind) s ≡ after_body (level functions (n - 1)) c body behind (exec (level functions (n - 1)) body s)
turn_begins functions n c body behind s h e =
    level_turns functions n c body behind s h ∙ branches_true s (word c s) (after_body (level functions (n - 1)) c body behind (exec (level functions (n - 1)) body s)) (Falls s) e
