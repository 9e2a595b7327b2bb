-- A schedule is shown as its number says.
use Rattle.std.proofs.Common.{◌≡◌, ◌≢◌, ℕ, zero, suc, List, refl, sym, subst}
use Rattle.cfarm_library_answers.specs.Answered.{Answers}
use Rattle.cfarm_library_answers.specs.Outcomes.{Drawn, Lined}
use Rattle.cfarm_library.specs.Flags.{ShownAs}

module _ (schedule : List ℕ) (status : ℕ) (bytes : List ℕ) (written : ℕ) where
  pub lined : (drawing : ℕ) → drawing ≡ 0 → Answers (Lined schedule) status bytes written → Answers (ShownAs drawing schedule) status bytes written
  lined drawing none is = subst (λ d. Answers (ShownAs d schedule) status bytes written) (sym none) is

  pub drawn : (drawing : ℕ) → drawing ≢ 0 → Answers (Drawn schedule) status bytes written → Answers (ShownAs drawing schedule) status bytes written
  drawn zero some is = absurd (some refl)
  drawn (suc more) some is = is
