-- Lists of the nodes, each with a value for each function.
use Rattle.std.specs.Prelude.{◌≡◌, ◌≢◌, ℕ, List, [], ◌∷◌, ◌++◌, Option, map, filter_map, slice_get}
use Rattle.std.specs.Global.{Vec}
use Rattle.rooms.specs.Opened.{offer_at}

-- what stands in each
abbrev pub rows_of : {X : Type 0} → List (Vec X) → List (List X)
rows_of lists = map (λ list. list.items) lists

-- what the nodes have for a function
abbrev pub column : {X : Type 0} → List (List X) → ℕ → List X
column rows f = filter_map (λ row. slice_get row f) rows

-- the offers of the nodes for a function, of which each may have made one
abbrev pub offers_of : {T : Type 0} → List (List (Option T)) → ℕ → List (Option T)
offers_of rows f = map (λ row. offer_at row f) rows

-- those for other functions are the same
abbrev pub AreForOthers : {T : Type 0} → ℕ → List (List (Option T)) → List (List (Option T)) → Type 0
AreForOthers f before after = (g : ℕ) → g ≢ f → offers_of after g ≡ offers_of before g

-- each with one value more
abbrev pub grown : {X : Type 0} → List (List X) → List X → List (List X)
grown [] xs = []
grown (row ∷ rows) [] = row ∷ rows
grown (row ∷ rows) (x ∷ xs) = (row ++ x ∷ []) ∷ grown rows xs
