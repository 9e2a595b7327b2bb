-- What is ahead of what stops a run: nothing goes wrong any more.
use Rattle.std.proofs.Common.{◌≡◌, ℕ, List, [], ◌∷◌, Option, Some, None, take, refl}
use Rattle.std.specs.Option.{option_or}
use Rattle.c_program.specs.Trees.{FunctionTree}
use Rattle.c_program.specs.Meaning.{Outcome, Falls, Breaks, Continues, Returns, RunsOut, Fails}
use Rattle.c_faults.specs.Frames.{Places}
use Rattle.c_faults.specs.Faults.{if_falls}
use Rattle.c_faults_step.specs.declared.item.Item.{Item}
use Rattle.c_faults_step.specs.declared.item.Item.TheVariants.{Do, Body, Last, Back}
use Rattle.c_faults_step.specs.declared.item.Running.{Running}
use Rattle.c_faults_step.specs.Ahead.{ahead}

pub ahead_fails : (places : Places) (functions : List FunctionTree) (items : List Item) (r : Running) (below : List (Option ℕ)) (output : List ℕ) →
    ahead places functions items r below (Fails output) ≡ None
ahead_fails places functions [] r below output = refl
ahead_fails places functions (Do n actions ps ∷ items) r below output = ahead_fails places functions items r below output
ahead_fails places functions (Body c ∷ items) r below output = ahead_fails places functions items r below output
ahead_fails places functions (Last c ∷ items) r below output = ahead_fails places functions items r below output
ahead_fails places functions (Back w ∷ items) r below output = ahead_fails places functions items w.running (take w.base below) output

pub ahead_runs_out : (places : Places) (functions : List FunctionTree) (items : List Item) (r : Running) (below : List (Option ℕ)) (output : List ℕ) →
    ahead places functions items r below (RunsOut output) ≡ None
ahead_runs_out places functions [] r below output = refl
ahead_runs_out places functions (Do n actions ps ∷ items) r below output = ahead_runs_out places functions items r below output
ahead_runs_out places functions (Body c ∷ items) r below output = ahead_runs_out places functions items r below output
ahead_runs_out places functions (Last c ∷ items) r below output = ahead_runs_out places functions items r below output
ahead_runs_out places functions (Back w ∷ items) r below output = ahead_runs_out places functions items w.running (take w.base below) output

pub or_assoc : {A : Type 0} (p q r : Option A) → option_or (option_or p q) r ≡ option_or p (option_or q r)
or_assoc None q r = refl
or_assoc (Some x) q r = refl

pub or_none : {A : Type 0} (p : Option A) → option_or p None ≡ p
or_none None = refl
or_none (Some x) = refl

-- nothing goes wrong behind the last
pub falls_none : (o : Outcome) → if_falls (λ s. None) o ≡ None
falls_none (Falls s) = refl
falls_none (Breaks s) = refl
falls_none (Continues s) = refl
falls_none (Returns w s) = refl
falls_none (RunsOut printed) = refl
falls_none (Fails printed) = refl
