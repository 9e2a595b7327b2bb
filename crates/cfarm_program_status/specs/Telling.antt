-- What the program answers: a status, and a line on standard error.
use Rattle.std.specs.Prelude.{◌≡◌, ◌⊎◌, ℕ, Bool, true, false, List, [], ◌∷◌, ◌++◌, Option, None, Some, codes}
use Rattle.cfarm_output.specs.Errors.{ErrorsHeld, HasFailed, Tells}

pub record Answer : Type 0 where
  pub status : ℕ
  pub line : Option (List ℕ)

-- done, with nothing to tell
abbrev pub quiet : Answer
quiet = record { status = 0; line = None }

abbrev pub told : ℕ → List ℕ → Answer
told status line = record { status = status; line = Some line }

-- there was no memory
abbrev pub no_memory : Answer
no_memory = told 7 (codes "memory")

-- the output could not be written
abbrev pub unwritten : Answer
unwritten = told 4 (codes "write 701")

-- Standard error, which held `before`, holds the line and an end of line behind it, and the status is the answer's; the status is 4
-- only where writing it failed.
abbrev pub IsToldBy : ℕ → Option (List ℕ) → ℕ → ErrorsHeld → ErrorsHeld → Type 0
IsToldBy status None result before after = (result ≡ status) × (after ≡ before)
IsToldBy status (Some line) result before after =
    ((result ≡ status) × Tells before after (line ++ 10 ∷ [])) ⊎ ((result ≡ 4) × HasFailed after)

abbrev pub IsToldAs : Answer → ℕ → ErrorsHeld → ErrorsHeld → Type 0
IsToldAs answer result before after = IsToldBy answer.status answer.line result before after

-- the line, where its text is known, with this status
abbrev pub IsLineTold : Option (List ℕ) → ℕ → ℕ → ErrorsHeld → ErrorsHeld → Type 0
IsLineTold line status result before after = (text : List ℕ) → line ≡ Some text → IsToldAs (told status text) result before after

-- The same with bytes in front of the line and behind its end.
abbrev pub IsToldAmong : (front behind : List ℕ) → ℕ → List ℕ → ℕ → ErrorsHeld → ErrorsHeld → Type 0
IsToldAmong front behind status line result before after =
    ((result ≡ status) × Tells before after (front ++ (line ++ 10 ∷ behind))) ⊎ ((result ≡ 4) × HasFailed after)

-- bytes behind what was told
abbrev pub IsShown : (behind : List ℕ) → ℕ → ℕ → ErrorsHeld → ErrorsHeld → Type 0
IsShown behind status result before after = ((result ≡ status) × Tells before after behind) ⊎ ((result ≡ 4) × HasFailed after)

-- an end of line, or nothing
abbrev pub break_where : Bool → List ℕ
break_where true = 10 ∷ []
break_where false = []

-- a line, where its text is known, behind the end of the output's line where it stands amid one, and in front of these bytes
abbrev pub IsLineAmong : (is_amid : Bool) (behind : List ℕ) → Option (List ℕ) → ℕ → ℕ → ErrorsHeld → ErrorsHeld → Type 0
IsLineAmong is_amid behind line status result before after =
    (text : List ℕ) → line ≡ Some text → IsToldAmong (break_where is_amid) behind status text result before after

-- What a user is shown round a line: in front of it an end of line, where the output does not end with one, and behind it an explanation. Where
-- standard error is no terminal there is neither.
abbrev pub IsSeen : Bool → List ℕ → List ℕ → Type 0
IsSeen is_seen front behind = (is_seen ≡ false → (front ≡ []) × (behind ≡ [])) × ((is_amid : Bool) × (front ≡ break_where is_amid))

-- Standard error holds the answer's line, with what a user is shown where it is a terminal.
abbrev pub IsExplainedBy : Bool → ℕ → Option (List ℕ) → ℕ → ErrorsHeld → ErrorsHeld → Type 0
IsExplainedBy is_seen status None result before after = (result ≡ status) × (after ≡ before)
IsExplainedBy is_seen status (Some line) result before after =
    (front : List ℕ) × (behind : List ℕ) × IsSeen is_seen front behind × IsToldAmong front behind status line result before after

abbrev pub IsExplained : Bool → Answer → ℕ → ErrorsHeld → ErrorsHeld → Type 0
IsExplained is_seen answer result before after = IsExplainedBy is_seen answer.status answer.line result before after
