-- What is said of the disk that a journal was made or opened on: it is the journal's, or comes back with a refusal.
use Rattle.std.specs.Prelude.{◌≢◌, Result, MatchResult}
use Rattle.acceptor_log_form.specs.declared.errors.LogError.{LogError}
use Rattle.acceptor_log_form.specs.declared.errors.LogError.TheVariants.{Device}
use Rattle.acceptor_log.specs.declared.log.Log.{Log}

module _ {D : Type 0} where
  -- of the disk behind `create`
  abbrev pub OnDisk : Result (Log D) (D × LogError) → (D → Type 0) → Type 0
  OnDisk result P = MatchResult result (λ log. P log.disk) (λ refused. P refused.0)

  -- the same, unless the device failed
  abbrev pub OnWorkingDisk : Result (Log D) (D × LogError) → (D → Type 0) → Type 0
  OnWorkingDisk result P = MatchResult result (λ log. P log.disk) (λ refused. refused.1 ≢ Device → P refused.0)

  module _ {R : Type 0} where
    -- of the disk behind `open`
    abbrev pub OnOpened : Result (Log D × R) (D × LogError) → (D → Type 0) → Type 0
    OnOpened result P = MatchResult result (λ opened. P opened.0.disk) (λ refused. P refused.0)

    -- the same, unless the device failed
    abbrev pub OnWorkingOpened : Result (Log D × R) (D × LogError) → (D → Type 0) → Type 0
    OnWorkingOpened result P = MatchResult result (λ opened. P opened.0.disk) (λ refused. refused.1 ≢ Device → P refused.0)
