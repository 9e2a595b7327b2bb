-- What stops a run stops all that is left.
use Rattle.std.proofs.Common.{◌≡◌, ℕ, List, [], ◌∷◌, Option, Some, None, take, refl}
use Rattle.c_program.specs.declared.action.Target.TheVariants.{Caller}
use Rattle.c_program.specs.Trees.{FunctionTree}
use Rattle.c_program.specs.State.{State}
use Rattle.c_program.specs.Meaning.{Outcome, RunsOut, Fails, goes_on, yields}
use Rattle.c_meaning_machine.specs.declared.left.Left.{Left}
use Rattle.c_meaning_machine.specs.declared.left.Left.TheVariants.{Rest, Body, Behind, Back}
use Rattle.c_meaning_machine.specs.Resume.{resume}

pub resume_fails : (functions : List FunctionTree) (left : List Left) (below : List (Option ℕ)) (output : List ℕ) → resume functions left below (Fails output) ≡ Fails output
resume_fails functions [] below output = refl
resume_fails functions (Rest n actions ∷ left) below output = resume_fails functions left below output
resume_fails functions (Body c ∷ left) below output = resume_fails functions left below output
resume_fails functions (Behind c ∷ left) below output = resume_fails functions left below output
resume_fails functions (Back c ∷ left) below output = resume_fails functions left (take c.base below) output

pub resume_runs_out : (functions : List FunctionTree) (left : List Left) (below : List (Option ℕ)) (output : List ℕ) → resume functions left below (RunsOut output) ≡ RunsOut output
resume_runs_out functions [] below output = refl
resume_runs_out functions (Rest n actions ∷ left) below output = resume_runs_out functions left below output
resume_runs_out functions (Body c ∷ left) below output = resume_runs_out functions left below output
resume_runs_out functions (Behind c ∷ left) below output = resume_runs_out functions left below output
resume_runs_out functions (Back c ∷ left) below output = resume_runs_out functions left (take c.base below) output

-- nothing behind a returned word is done
pub yields_back : (next : State → Outcome) (s : State) (w : Option ℕ) → goes_on next (yields Caller s w) ≡ yields Caller s w
yields_back next s None = refl
yields_back next s (Some w) = refl
