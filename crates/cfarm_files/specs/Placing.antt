-- What is known of the files that were made, or put in the place of others.
use Rattle.std.specs.Prelude.{◌≡◌, ◌⊎◌, ℕ, List, [], ◌∷◌, ◌++◌, map, Option, None, Some, Result, MatchResult}
use Rattle.std.specs.List.{AllByRecursion}

-- a file that was put: where, and with which bytes; or one that was made, where there was none, with no bytes
pub record Placed : Type 0 where
  pub path : List ℕ
  pub bytes : Option (List ℕ)

abbrev pub made_at : List ℕ → Placed
made_at path = record { path = path; bytes = None }

-- what is known stays as it was
abbrev pub KeepsFolder : Option (List Placed) → Option (List Placed) → Type 0
KeepsFolder None new = Unit {0}
KeepsFolder (Some before) new = new ≡ Some before

-- what is known grows by these bytes, put here
abbrev pub Places : Option (List Placed) → Option (List Placed) → List ℕ → List ℕ → Type 0
Places None new path bytes = Unit {0}
Places (Some before) new path bytes = new ≡ Some (before ++ record { path = path; bytes = Some bytes } ∷ [])

-- the old file stands there or the new one, each whole: it stays as it was, or it grows so
abbrev pub MayPlace : Option (List Placed) → Option (List Placed) → List ℕ → List ℕ → Type 0
MayPlace before after path bytes = KeepsFolder before after ⊎ Places before after path bytes

-- the bytes were put; or that is refused, and the old file stands there or the new one
abbrev pub PlacesWhole : {T E : Type 0} → (before after : Option (List Placed)) → (path bytes : List ℕ) → Result T E → Type 0
PlacesWhole before after path bytes result = MatchResult result (λ _. Places before after path bytes) (λ _. MayPlace before after path bytes)

-- what is known grows by files alone that are made at such paths, if by any
abbrev pub Makes : Option (List Placed) → Option (List Placed) → (List ℕ → Type 0) → Type 0
Makes None new IsSuch = Unit {0}
Makes (Some before) new IsSuch = (paths : List (List ℕ)) × (new ≡ Some (before ++ map made_at paths)) × AllByRecursion IsSuch paths

-- whatever may be given now might have been given before
abbrev pub GivesNoMore : {D : Type 0} → (before after : List ℕ → List ℕ → D → Type 0) → Type 0
GivesNoMore {D} before after = (path old_path : List ℕ) (disk : D) → after path old_path disk → before path old_path disk
