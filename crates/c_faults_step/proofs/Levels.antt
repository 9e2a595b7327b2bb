-- Where what runs with a bound goes wrong, by whether it is spent.
use Rattle.std.proofs.Common.{◌≡◌, ℕ, zero, suc, ◌-◌, ◌<◌, cond, List, Option, Some, None, refl, sym, ap, subst, arith}
use Rattle.std.specs.Prelude.{slice_get}
use Rattle.std.proofs.lemmas.Bool.{ne_eqb}
use Rattle.c_program.specs.Trees.{TermTree, ActionTree, FunctionTree}
use Rattle.c_program.specs.State.{State}
use Rattle.c_program.specs.Meaning.{Outcome, Falls, Level, branches, exec, after_body, level}
use Rattle.c_program.specs.Meaning as M
use Rattle.c_faults.specs.declared.fault.Site.{Site}
use Rattle.c_faults.specs.Gaps.{by_word}
use Rattle.c_program.specs.declared.action.Target.{Target}
use Rattle.c_program.specs.declared.action.Target.TheVariants.{Nowhere, Local, Global, Caller}
use Rattle.c_faults.specs.Changes.{malformed, return_gap}
use Rattle.c_faults.specs.Frames.{Frame, Task, Turns, Calls, Places}
use Rattle.c_faults.specs.Faults.{turns_fault, entered_fault, blames}

less : (n : ℕ) → suc n - 1 ≡ n
less n = omega arith

pub blames_none : (places : Places) (functions : List FunctionTree) (n : ℕ) (task : Task) (s : State) → n ≡ 0 → blames places functions n task s ≡ None
blames_none places functions n task s e = subst (λ k. blames places functions k task s ≡ None) (sym e) refl

pub blames_turns : (places : Places) (functions : List FunctionTree) (n : ℕ) (f : Frame) (ps : List ℕ) (c : TermTree) (body last : ActionTree) (s : State) →
    0 < n → blames places functions n (Turns f ps c body last) s ≡ turns_fault f (level functions (n - 1)) (blames places functions (n - 1)) ps c body last s
blames_turns places functions zero f ps c body last s h = absurd (omega arith)
blames_turns places functions (suc n) f ps c body last s h =
    ap (λ k. turns_fault f (level functions k) (blames places functions k) ps c body last s) (sym (less n))

pub blames_calls : (places : Places) (functions : List FunctionTree) (n : ℕ) (callers : List Site) (number : ℕ) (arguments : List ℕ) (s : State) →
    0 < n → blames places functions n (Calls callers number arguments) s
    ≡ entered_fault places (level functions (n - 1)) (blames places functions (n - 1)) callers number (slice_get functions number) arguments s
blames_calls places functions zero callers number arguments s h = absurd (omega arith)
blames_calls places functions (suc n) callers number arguments s h =
    ap (λ k. entered_fault places (level functions k) (blames places functions k) callers number (slice_get functions number) arguments s) (sym (less n))

-- by a word that is 0, and by one that is not
pub word_none : {A : Type 0} (x : Option ℕ) (p q r : A) → x ≡ None → by_word x p q r ≡ p
word_none x p q r e = subst (λ y. by_word y p q r ≡ p) (sym e) refl

pub word_zero : {A : Type 0} (x : Option ℕ) (p q r : A) → x ≡ Some 0 → by_word x p q r ≡ q
word_zero x p q r e = subst (λ y. by_word y p q r ≡ q) (sym e) refl

more : {A : Type 0} (w : ℕ) (p q r : A) → (w ≡ 0 → ⊥) → by_word (Some w) p q r ≡ r
more zero p q r h = absurd (h refl)
more (suc w) p q r h = refl

pub word_more : {A : Type 0} (x : Option ℕ) (w : ℕ) (p q r : A) → x ≡ Some w → (w ≡ 0 → ⊥) → by_word x p q r ≡ r
word_more x w p q r e h = subst (λ y. by_word y p q r ≡ r) (sym e) (more w p q r h)

pub branch_none : (s : State) (x : Option ℕ) (a b : Outcome) → x ≡ None → branches s x a b ≡ M.Fails s.output
branch_none s x a b e = subst (λ y. branches s y a b ≡ M.Fails s.output) (sym e) refl

pub branch_zero : (s : State) (x : Option ℕ) (a b : Outcome) → x ≡ Some 0 → branches s x a b ≡ b
branch_zero s x a b e = subst (λ y. branches s y a b ≡ b) (sym e) refl

pub branch_more : (s : State) (x : Option ℕ) (w : ℕ) (a b : Outcome) → x ≡ Some w → (w ≡ 0 → ⊥) → branches s x a b ≡ a
branch_more s x w a b e h = subst (λ y. branches s y a b ≡ a) (sym e) (ap (λ t. cond t b a) (ne_eqb w 0 h))

-- a callee that gives nothing back serves for no target
pub return_none : (at : ℕ) (target : Target) (s : State) → (target ≡ Nowhere → ⊥) → return_gap at target None s ≡ malformed at
return_none at Nowhere s h = absurd (h refl)
return_none at (Local n) s h = refl
return_none at (Global g) s h = refl
return_none at Caller s h = refl
