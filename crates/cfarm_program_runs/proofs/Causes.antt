-- What is told of a run that went wrong has its cause behind it, and what is told of one that was stopped its bound.
use Rattle.std.specs.Prelude.{ℤ, ◌==◌, if◌then◌else◌, Option, None, Some, true, false}
use Rattle.std.specs.Int.{cast_unsigned, w32}
use Rattle.std.proofs.Common.{◌≡◌, ℕ, Bool, List, ◌∷◌, ◌++◌, inl, inr, refl, sym, subst, ◌∙◌, arith}
use Rattle.lang_base.specs.declared.shown.Shown.{Shown}
use Rattle.lang_base.specs.declared.shown.Shown.TheVariants as S
use Rattle.lang_base.specs.declared.errors.FormError.TheVariants as F
use Rattle.lang_helpers.specs.declared.error.RunError.TheVariants as R
use Rattle.cfarm_run.specs.Closings.{closing_line}
use Rattle.cfarm_run.specs.ExecStatuses as exec
use Rattle.cfarm_run.specs.declared.exec_error.ExecError.{ExecError}
use Rattle.cfarm_run.specs.declared.exec_error.ExecError.TheVariants as X
use Rattle.cfarm_run.specs.TextStatuses.{status_of_end, status_of_shown, status_where}
use Rattle.cfarm_output.specs.Errors.{ErrorsHeld, Tells}
use Rattle.cfarm_program_status.specs.Telling.{IsToldAmong}
use Rattle.cfarm_program_runs.specs.Saying.{IsBehindStopped, IsBehindWrong, IsStoppedTold, IsWrongTold}

module _ (asked : Bool) (path bytes : List ℕ) (depth : ℕ) (front behind : List ℕ) (status result : ℕ) (before after : ErrorsHeld) where
  pub wrong_told : (shown : Shown) → status ≡ status_of_shown shown → (shown ≡ S.Wrong → IsBehindWrong asked path bytes depth behind)
      → IsToldAmong front behind status (closing_line shown) result before after → IsWrongTold asked path bytes depth result before after
  wrong_told S.Wrong is cause (inl told) five = (front, behind, cause refl, told.1)
  wrong_told S.Wrong is cause (inr failed) five = absurd (omega (arith, failed.0, five))
  wrong_told (S.Ended word) is cause (inl told) five = absurd (omega (arith, is, told.0, five))
  wrong_told (S.Ended word) is cause (inr failed) five = absurd (omega (arith, failed.0, five))
  wrong_told S.Running is cause (inl told) five = absurd (omega (arith, is, told.0, five))
  wrong_told S.Running is cause (inr failed) five = absurd (omega (arith, failed.0, five))

module _ (asked : Bool) (text front behind : List ℕ) (status result : ℕ) (before after : ErrorsHeld) where
  pub stopped_told : (shown : Shown) → (status ≡ 6 → shown ≡ S.Running) → (shown ≡ S.Running → IsBehindStopped asked text behind)
      → IsToldAmong front behind status (closing_line shown) result before after → IsStoppedTold asked text result before after
  stopped_told shown is bound (inl told) six =
      let running : shown ≡ S.Running = is (sym told.0 ∙ six) in
      (front, behind, bound running, subst (λ (s : Shown). Tells before after (front ++ (closing_line s ++ 10 ∷ behind))) running told.1)
  stopped_told shown is bound (inr failed) six = absurd (omega (arith, failed.0, six))

-- which run has the status of one that was stopped
pub running_by_status : (shown : Shown) → status_of_shown shown ≡ 6 → shown ≡ S.Running
running_by_status (S.Ended word) six = absurd (omega (arith, six))
running_by_status S.Wrong six = absurd (omega (arith, six))
running_by_status S.Running six = refl

by_end : (b : Bool) (status : ℕ) → status ≡ (if b then 0 else 5) → status ≡ 6 → ⊥
by_end true status is six = absurd (omega (arith, is, six))
by_end false status is six = absurd (omega (arith, is, six))

running_by_end : (shown : Shown) (wanted : ℕ) → status_of_end shown wanted ≡ 6 → shown ≡ S.Running
running_by_end (S.Ended word) wanted six = absurd (by_end (word == wanted) (status_of_end (S.Ended word) wanted) refl six)
running_by_end S.Wrong wanted six = absurd (omega (arith, six))
running_by_end S.Running wanted six = refl

pub running_where : (shown : Shown) (expected : Option ℤ) → status_where shown expected ≡ 6 → shown ≡ S.Running
running_where shown None six = running_by_status shown six
running_where shown (Some wanted) six = running_by_end shown (cast_unsigned w32 wanted) six

-- no refusal of a linked program has it
pub refused_never : (fault : ExecError) → exec.status_of fault ≡ 6 → ⊥
refused_never (X.Form F.NoMemory) six = absurd (omega (arith, six))
refused_never (X.Form F.Short) six = absurd (omega (arith, six))
refused_never (X.Form F.BadTag) six = absurd (omega (arith, six))
refused_never (X.Form F.NotCanonical) six = absurd (omega (arith, six))
refused_never (X.Form F.TooLarge) six = absurd (omega (arith, six))
refused_never (X.Run R.NoMemory) six = absurd (omega (arith, six))
refused_never (X.Run R.Write) six = absurd (omega (arith, six))

-- and what is told with another status is no such run
pub unstopped_told : (asked : Bool) (text front behind line : List ℕ) (status result : ℕ) (before after : ErrorsHeld) → (status ≡ 6 → ⊥)
    → IsToldAmong front behind status line result before after → IsStoppedTold asked text result before after
unstopped_told asked text front behind line status result before after never (inl told) six = absurd (never (sym told.0 ∙ six))
unstopped_told asked text front behind line status result before after never (inr failed) six = absurd (omega (arith, failed.0, six))
