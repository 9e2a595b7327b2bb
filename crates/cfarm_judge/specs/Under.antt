-- The function of a name.
use Rattle.std.specs.Prelude.{◌≡◌, ◌≢◌, ℕ, zero, suc, List, [], ◌∷◌}
use Rattle.std.specs.List.{AllByRecursion}
use Rattle.lang_base.specs.declared.program.Named.{Named}

-- the first function of this name is this one, and has this number
abbrev pub IsUnderAt : {F : Type 0} → List (Named F) → List ℕ → F → ℕ → Type 0
IsUnderAt [] name f i = ⊥
IsUnderAt (g ∷ functions) name f zero = (g.name ≡ name) × (g.function ≡ f)
IsUnderAt (g ∷ functions) name f (suc i) = (g.name ≢ name) × IsUnderAt functions name f i

-- the first function of this name has this number
abbrev pub IsPlaceOf : {F : Type 0} → List (Named F) → List ℕ → ℕ → Type 0
IsPlaceOf {F} functions name i = (f : F) × IsUnderAt functions name f i

-- the first function of this name is this one
abbrev pub IsUnder : {F : Type 0} → List (Named F) → List ℕ → F → Type 0
IsUnder functions name f = (i : ℕ) × IsUnderAt functions name f i

-- none of them has this name
abbrev pub HasNone : {F : Type 0} → List (Named F) → List ℕ → Type 0
HasNone functions name = AllByRecursion (λ f. f.name ≢ name) functions
