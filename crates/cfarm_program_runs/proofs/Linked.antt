-- What is told of a linked program's run that went wrong has its cause behind it.
use Rattle.std.proofs.Common.{◌≡◌, ℕ, Bool, List, inl, inr, sym, ◌∙◌, arith}
use Rattle.lang_base.specs.declared.shown.Shown.{Shown}
use Rattle.lang_base.specs.declared.shown.Shown.TheVariants.{Wrong}
use Rattle.lang_base.specs.declared.errors.FormError.TheVariants as F
use Rattle.lang_helpers.specs.declared.error.RunError.TheVariants as R
use Rattle.cfarm_run.specs.Closings.{closing_line}
use Rattle.cfarm_run.specs.ExecStatuses.{status_of}
use Rattle.cfarm_run.specs.declared.exec_error.ExecError.{ExecError}
use Rattle.cfarm_run.specs.declared.exec_error.ExecError.TheVariants as X
use Rattle.cfarm_output.specs.Errors.{ErrorsHeld}
use Rattle.cfarm_program_status.specs.Telling.{IsToldAmong}
use Rattle.cfarm_program_runs.specs.Saying.{IsBehindLinked, IsLinkedTold}

-- no refusal of a linked program has the status of a run that went wrong
pub refused_never_wrong : (fault : ExecError) → status_of fault ≡ 5 → ⊥
refused_never_wrong (X.Form F.NoMemory) five = absurd (omega (arith, five))
refused_never_wrong (X.Form F.Short) five = absurd (omega (arith, five))
refused_never_wrong (X.Form F.BadTag) five = absurd (omega (arith, five))
refused_never_wrong (X.Form F.NotCanonical) five = absurd (omega (arith, five))
refused_never_wrong (X.Form F.TooLarge) five = absurd (omega (arith, five))
refused_never_wrong (X.Run R.NoMemory) five = absurd (omega (arith, five))
refused_never_wrong (X.Run R.Write) five = absurd (omega (arith, five))

module _ (asked : Bool) (path bytes : List ℕ) (limit : ℕ) (front behind : List ℕ) (status result : ℕ) (before after : ErrorsHeld) where
  pub linked_told : (shown : Shown) → (shown ≡ Wrong → IsBehindLinked asked path bytes limit behind)
      → IsToldAmong front behind status (closing_line shown) result before after → IsLinkedTold asked path bytes limit result before after
  linked_told shown cause (inl told) five = (shown, front, behind, cause, told.1)
  linked_told shown cause (inr failed) five = absurd (omega (arith, failed.0, five))

  pub unlinked_told : (line : List ℕ) → (status ≡ 5 → ⊥) → IsToldAmong front behind status line result before after → IsLinkedTold asked path bytes limit result before after
  unlinked_told line never (inl told) five = absurd (never (sym told.0 ∙ five))
  unlinked_told line never (inr failed) five = absurd (omega (arith, failed.0, five))
