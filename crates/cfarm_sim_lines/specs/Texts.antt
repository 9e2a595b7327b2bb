-- The text of a schedule: lines that end with a line feed, which may be missing behind the last.
use Rattle.std.specs.Prelude.{◌≡◌, ◌≢◌, ℕ, Bool, ◌==◌, ◌⊎◌, List, [], ◌∷◌, ◌++◌}
use Rattle.std.specs.List.{before_first}
use Rattle.cfarm_sim_lines.specs.Commands.{line_of}
use Rattle.cfarm_sim_lines.specs.declared.command.Command.{Command}

abbrev pub is_byte : ℕ → ℕ → Bool
is_byte byte b = b == byte

-- this first line, and these commands, of which the last stands first in the list
abbrev pub text_of : List ℕ → List Command → List ℕ
text_of head [] = head ++ 10 ∷ []
text_of head (c ∷ cs) = text_of head cs ++ (line_of c ++ 10 ∷ [])

-- these are all the lines of the text
abbrev pub IsScheduleText : List ℕ → List ℕ → List Command → Type 0
IsScheduleText text head commands = (text ≡ text_of head commands) ⊎ (text ++ 10 ∷ [] ≡ text_of head commands)

-- what is left of the text behind the lines that were read
abbrev pub IsLeft : List ℕ → List ℕ → List Command → List ℕ → Type 0
IsLeft text head commands rest = (text ≡ text_of head commands ++ rest) ⊎ ((rest ≡ []) × (text ++ 10 ∷ [] ≡ text_of head commands))

-- the line with which a text begins
abbrev pub first_line : List ℕ → List ℕ
first_line text = before_first (is_byte 10) text

-- the line does not begin with the word
abbrev pub HasNoFront : List ℕ → List ℕ → Type 0
HasNoFront line word = (rest : List ℕ) → line ≢ word ++ rest
