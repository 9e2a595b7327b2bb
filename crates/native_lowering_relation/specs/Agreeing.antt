-- Words of Linear, each defined or not, and the native words that stand for them.
use Rattle.std.specs.Prelude.{◌≡◌, ℕ, List, [], ◌∷◌, Option, Some, None}

-- a defined word is this one
abbrev pub Agrees : Option ℕ → ℕ → Type 0
Agrees None w = Unit {0}
Agrees (Some v) w = w ≡ v

-- for each of the first there is one at the same place that agrees; more may follow
abbrev pub AgreeEach : List (Option ℕ) → List ℕ → Type 0
AgreeEach [] ws = Unit {0}
AgreeEach (v ∷ vs) [] = ⊥
AgreeEach (v ∷ vs) (w ∷ ws) = Agrees v w × AgreeEach vs ws
