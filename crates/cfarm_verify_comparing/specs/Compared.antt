-- Functions that differ under one name.
use Rattle.std.specs.Prelude.{◌≡◌, ◌≢◌, ℕ, zero, suc, List, [], ◌∷◌, Option, MatchOption}
use Rattle.lang_base.specs.declared.program.Named.{Named}

-- the functions of this number differ, and those before them are the same
abbrev pub IsFirstOther : {F : Type 0} → List (Named F) → List (Named F) → ℕ → Type 0
IsFirstOther [] others i = ⊥
IsFirstOther (f ∷ functions) [] i = ⊥
IsFirstOther (f ∷ functions) (g ∷ others) zero = g.function ≢ f.function
IsFirstOther (f ∷ functions) (g ∷ others) (suc i) = (g.function ≡ f.function) × IsFirstOther functions others i

-- no function is other than these, or the first that is
abbrev pub TellsFirstOther : {F : Type 0} → List (Named F) → List (Named F) → Option ℕ → Type 0
TellsFirstOther functions others told = MatchOption told (others ≡ functions) (IsFirstOther functions others)
