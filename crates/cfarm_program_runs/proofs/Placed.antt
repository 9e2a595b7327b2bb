-- A fault that is told as an object of JSON, or as ever where it has no place.
use Rattle.std.specs.Prelude.{◌≡◌, ◌⊎◌, ℕ, List, Option, None, Some, false}
use Rattle.std.proofs.Common.{refl, ap, inl, inr, subst, sym, ◌∙◌}
use Rattle.c_texts.specs.declared.error.TextError.{TextError}
use Rattle.cfarm_output.specs.Errors.{ErrorsHeld}
use Rattle.cfarm_run.specs.TextLines.{error_line}
use Rattle.cfarm_run.specs.TextStatuses.{status_of_error}
use Rattle.cfarm_run.specs.declared.command_error.CommandError.{CommandError}
use Rattle.cfarm_program_status.specs.Telling.{Answer, IsExplained, no_memory, told}
use Rattle.cfarm_program_runs.specs.Objects.{fault_line}
use Rattle.cfarm_program_runs.specs.Outcomes.{IsCheckedFault, IsObjectLine, IsRefusalOf, placed_fault}
use Rattle.cfarm_program_runs.specs.Refusals.{IsRefusalAnswer, IsRefusalTold}
use Rattle.cfarm_program_runs.specs.Saying.{IsObjectTold}
use Rattle.cfarm_program_runs.specs.declared.objects.Refusal.{Refusal}
use Rattle.cfarm_command_line_tasks.specs.declared.task.Format.TheVariants.{Json}

module _ (path bytes : List ℕ) (fault : CommandError) where
  answered : (refused : TextError) (at status : ℕ) (refusal : Refusal) (answer : Answer) → placed_fault fault ≡ Some (refused, at)
      → IsRefusalOf path bytes refused at refusal → status ≡ status_of_error fault
      → IsRefusalAnswer refusal status answer → IsCheckedFault Json path bytes fault answer
  answered refused at status refusal answer placed of same (inl none) = inl none
  answered refused at status refusal answer placed of same (inr is) =
      let line = fault_line refusal in
      inr (line, subst (λ o. IsObjectLine path bytes fault o line) (sym placed) (refusal, of, refl), is ∙ ap (λ s. told s line) same)

  pub object_told : (refused : TextError) (at status result : ℕ) (refusal : Refusal) {before after : ErrorsHeld} → placed_fault fault ≡ Some (refused, at)
      → IsRefusalOf path bytes refused at refusal → status ≡ status_of_error fault
      → IsRefusalTold refusal status result before after → IsObjectTold path bytes fault result before after
  object_told refused at status result refusal placed of same (answer, is, so) =
      (answer, answered refused at status refusal answer placed of same is, so)

  pub unplaced : (result : ℕ) (before after : ErrorsHeld) → placed_fault fault ≡ None
      → IsExplained false (told (status_of_error fault) (error_line fault)) result before after → IsObjectTold path bytes fault result before after
  unplaced result before after placed so =
      let line = error_line fault in
      (told (status_of_error fault) line, inr (line, subst (λ o. IsObjectLine path bytes fault o line) (sym placed) refl, refl), so)
