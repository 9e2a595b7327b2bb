-- An answer that was put is the answer that was found.
use Rattle.std.specs.Prelude.{◌≡◌, ℕ, List}
use Rattle.std.proofs.Common.{inr, sym, subst}
use Rattle.cfarm_library_answers.specs.Answered.{Answers, Coming, IsRefused}

module _ (status status' : ℕ) (bytes bytes' : List ℕ) (written written' : ℕ) (s : status ≡ status') (b : bytes ≡ bytes') (n : written ≡ written') where
  pub carried : (Comes : Coming) → Answers Comes status' bytes' written' → Answers Comes status bytes written
  carried Comes is =
      subst (λ x. Answers Comes x bytes written) (sym s) (subst (λ y. Answers Comes status' y written) (sym b) (subst (λ z. Answers Comes status' bytes' z) (sym n) is))

  pub refused : (Comes : Coming) → IsRefused status' bytes' written' → Answers Comes status bytes written
  refused Comes is = carried Comes (inr is)
