-- The answers to jobs: yes exactly where the rules of the pass hold.
use Rattle.std.specs.Prelude.{◌≡◌, ℕ, Bool, IsTrue, ◌↔◌, List, [], ◌∷◌, Option, Some, None, slice_get}
use Rattle.offers.specs.declared.parts.Parts.{Parts}
use Rattle.parallel_validate.specs.declared.verdict.Verdict.{Verdict}

-- this is the answer to the job
abbrev pub IsAnswer : {I O C : Type 0} → (I → O → C → Type 0) → Parts I O C → Bool → Type 0
IsAnswer accepts job told = IsTrue told ↔ accepts job.input job.output job.certificate

-- one answer for each job, in the order of the jobs
abbrev pub AreAnswers : {I O C : Type 0} → (I → O → C → Type 0) → List (Parts I O C) → List Bool → Type 0
AreAnswers accepts [] [] = Unit {0}
AreAnswers accepts [] (told ∷ answers) = ⊥
AreAnswers accepts (job ∷ jobs) [] = ⊥
AreAnswers accepts (job ∷ jobs) (told ∷ answers) = IsAnswer accepts job told × AreAnswers accepts jobs answers

-- this is the answer to the job of that number
abbrev pub IsAnswerAt : {I O C : Type 0} → (I → O → C → Type 0) → List (Parts I O C) → ℕ → Bool → Type 0
IsAnswerAt {I} {O} {C} accepts jobs number told = (job : Parts I O C) → slice_get jobs number ≡ Some job → IsAnswer accepts job told

-- a thread's verdict is the answer to its job
abbrev pub IsRight : {I O C : Type 0} → (I → O → C → Type 0) → List (Parts I O C) → Verdict → Type 0
IsRight accepts jobs verdict = IsAnswerAt accepts jobs verdict.job verdict.yes

-- what is known of a job so far, if anything, is the answer
abbrev pub IsKnown : {I O C : Type 0} → (I → O → C → Type 0) → List (Parts I O C) → ℕ → Option Bool → Type 0
IsKnown accepts jobs number None = Unit {0}
IsKnown accepts jobs number (Some told) = IsAnswerAt accepts jobs number told
