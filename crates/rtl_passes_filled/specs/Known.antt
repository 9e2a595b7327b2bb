-- What is known behind an instruction: what it makes, and what it keeps of what is known before.
use Rattle.std.specs.Prelude.{◌≡◌, ◌⊎◌, Bool, true, List, Option, Some, Contains}

-- a fact that a change makes, or that is among those before and that it keeps
abbrev pub IsMadeOrKept : {A : Type 0} → Option A → (A → Bool) → List A → A → Type 0
IsMadeOrKept made keeps before fact = (made ≡ Some fact) ⊎ (Contains before fact × (keeps fact ≡ true))
