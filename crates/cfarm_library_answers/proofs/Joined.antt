-- What is joined of what was written and what is told is the answer of a command.
use Rattle.std.proofs.Common.{◌≡◌, ◌⊎◌, inl, inr, ℕ, List, [], ◌++◌, length, Option, Some, None, refl, sym, subst, ◌∙◌}
use Rattle.std.specs.Prelude.{IfSome}
use Rattle.std.specs.Fmt.{with_newline}
use Rattle.std.specs.Io.KnownBytes.{Appends}
use Rattle.cfarm_library_answers.specs.Answered.{Coming, Gives, IsJoined, IsRefused, IsToldOr, Refuses, ended_line}
use Rattle.cfarm_library_answers.specs.Outcomes.{Changed, IsDone, IsTold}
use Rattle.cfarm_library_answers.specs.declared.answer.Answer.{Answer}

-- nothing was written before
module _ (Holds : Changed) (before output : List ℕ) (none : before ≡ []) (holds : Holds (Some before) (Some output)) where
  pub done_is : IsDone Holds 0 output []
  done_is = (subst (λ b. Holds (Some b) (Some output)) none holds, refl, refl)

  pub told_is : (status : ℕ) (line : List ℕ) → IsTold Holds status line status output (ended_line line)
  told_is status line = (subst (λ b. Holds (Some b) (Some output)) none holds, refl, refl)

module _ (Comes : Coming) (output : List ℕ) (it : Answer) where
  pub gives : (status : ℕ) (told : List ℕ) → Comes status output told → IsJoined status output told it → Gives Comes it
  gives status told comes is =
      inl (record { written = output; told = told; comes = subst (λ s. Comes s output told) (sym is.0) comes; held = is.1; counted = is.2 })

  pub gives_or : (status ended : ℕ) (told : List ℕ) → ended ≡ status → Comes status output told → IsToldOr ended output told it → Gives Comes it
  gives_or status ended told same comes (inl is) = gives ended told (subst (λ s. Comes s output told) (sym same) comes) is
  gives_or status ended told same comes (inr refused) = inr refused

-- whatever line it is
pub untold : (line : Option (List ℕ)) (status : ℕ) (output : List ℕ) (it : Answer) → Refuses it → IfSome line (λ text. IsToldOr status output (ended_line text) it)
untold None status output it refused = tt
untold (Some text) status output it refused = inr refused

-- a line that was written behind, with the status, the bytes and the count of an answer
pub line_told : (line : Option (List ℕ)) (status : ℕ) (before after : List ℕ) (status' : ℕ) (bytes : List ℕ) (count : ℕ)
    → status' ≡ status → bytes ≡ after → count ≡ length before → IfSome (with_newline line) (Appends (Some before) (Some after))
    → IfSome line (λ text. ((status' ≡ status) × (bytes ≡ before ++ ended_line text) × (count ≡ length before)) ⊎ IsRefused status' bytes count)
line_told None status before after status' bytes count same held counted appended = tt
line_told (Some text) status before after status' bytes count same held counted appended = inl (same, held ∙ appended, counted)
