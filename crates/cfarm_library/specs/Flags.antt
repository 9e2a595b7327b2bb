-- What C passes by numbers.
use Rattle.std.specs.Prelude.{ℕ, zero, suc, List, Option, None, Some}
use Rattle.cfarm_library_answers.specs.Answered.{Coming}
use Rattle.cfarm_library_answers.specs.Outcomes.{Drawn, Lined}

-- a value, where the number before it is not 0
abbrev pub given : {A : Type 0} → ℕ → A → Option A
given zero value = None
given (suc more) value = Some value

-- a schedule's lines for 0, else its drawing
abbrev pub ShownAs : ℕ → List ℕ → Coming
ShownAs zero bytes = Lined bytes
ShownAs (suc more) bytes = Drawn bytes
