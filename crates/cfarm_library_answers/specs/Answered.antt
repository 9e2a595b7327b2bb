-- What the library answers: the status of a command, the bytes that it writes, and behind them the line that it tells.
use Rattle.std.specs.Prelude.{◌≡◌, ◌⊎◌, ℕ, List, [], ◌∷◌, ◌++◌, codes, length}
use Rattle.cfarm_library_answers.specs.declared.answer.Answer.{Answer}

-- what a command comes to: its status, what it wrote, and what it told
abbrev pub Coming : Type 1
Coming = (status : ℕ) (written told : List ℕ) → Type 0

-- a line that is told, with its end
abbrev pub ended_line : List ℕ → List ℕ
ended_line text = text ++ 10 ∷ []

-- what is written, and behind it what is told
abbrev pub IsJoined : ℕ → (written told : List ℕ) → Answer → Type 0
IsJoined status written told it = (it.status ≡ status) × (it.bytes.items ≡ written ++ told) × (it.written ≡ length written)

-- memory was refused: nothing is written, and that is told, if there is memory for the line
abbrev pub IsRefused : ℕ → List ℕ → ℕ → Type 0
IsRefused status bytes count = (status ≡ 7) × (count ≡ 0) × ((bytes ≡ codes "memory\n") ⊎ (bytes ≡ []))

abbrev pub Refuses : Answer → Type 0
Refuses it = IsRefused it.status it.bytes.items it.written

abbrev pub IsToldOr : ℕ → (written told : List ℕ) → Answer → Type 0
IsToldOr status written told it = IsJoined status written told it ⊎ Refuses it

-- the command comes to this: it wrote the first of the bytes, and told the others
pub record IsOf (Comes : Coming) (status : ℕ) (bytes : List ℕ) (count : ℕ) : Type 0 where
  pub written : List ℕ
  pub told : List ℕ
  pub comes : Comes status written told
  pub held : bytes ≡ written ++ told
  pub counted : count ≡ length written

-- the answer of a command, or that memory was refused
abbrev pub Answers : Coming → ℕ → List ℕ → ℕ → Type 0
Answers Comes status bytes count = IsOf Comes status bytes count ⊎ IsRefused status bytes count

-- the same of a call
abbrev pub Gives : Coming → Answer → Type 0
Gives Comes it = Answers Comes it.status it.bytes.items it.written
