-- What stands at a place of a text.
use Rattle.std.specs.Prelude.{◌≡◌, ℕ, false, ◌==◌, List, ◌++◌, length, drop, Option, None, Some, ⊤}
use Rattle.c_places.specs.Places.{place_of}
use Rattle.c_places.specs.declared.place.Place.{Place}

-- the bytes stand at this offset; none stand anywhere
abbrev pub StandsAt : (text : List ℕ) → ℕ → List ℕ → Type 0
StandsAt text at bytes = (rest : List ℕ) × (drop at text ≡ bytes ++ rest)

-- they stand at the offset that was found, if one was
abbrev pub StandsWhere : (text : List ℕ) → List ℕ → Option ℕ → Type 0
StandsWhere text bytes None = ⊤
StandsWhere text bytes (Some at) = StandsAt text at bytes

-- the place is that of the same bytes as at this offset, of which there are some, if one is given
abbrev pub IsDeclaredAt : (text : List ℕ) → ℕ → Option Place → Type 0
IsDeclaredAt text at None = ⊤
IsDeclaredAt text at (Some place) =
    (found : List ℕ) × (first : ℕ) × ((length found == 0) ≡ false) × StandsAt text at found × StandsAt text first found
    × (place ≡ place_of text first)
