-- Answers to the first jobs, and one more.
use Rattle.std.proofs.Common.{ℕ, zero, suc, ◌<◌, Bool, List, [], ◌∷◌, ◌++◌, length, take, refl, arith}
use Rattle.offers.specs.declared.parts.Parts.{Parts}
use Rattle.parallel_validate.specs.Verdicts.{AreAnswers, IsAnswerAt}

-- the answer to the next job comes behind those to the first ones
pub answers_next : {I O C : Type 0} (accepts : I → O → C → Type 0) (jobs : List (Parts I O C)) (n : ℕ) (answers : List Bool) (told : Bool) → n < length jobs → AreAnswers accepts (take n jobs) answers → IsAnswerAt accepts jobs n told → AreAnswers accepts (take (suc n) jobs) (answers ++ told ∷ [])
answers_next accepts [] n answers told below are is = absurd (omega (arith, below))
answers_next accepts (job ∷ jobs) zero [] told below are is = (is job refl, tt)
answers_next accepts (job ∷ jobs) zero (a ∷ answers) told below are is = absurd are
answers_next accepts (job ∷ jobs) (suc n) [] told below are is = absurd are
answers_next accepts (job ∷ jobs) (suc n) (a ∷ answers) told below are is =
    (are.0, answers_next accepts jobs n answers told (omega (arith, below)) are.1 (λ j e. is j e))
