-- A list that is mapped item by item.
use Rattle.std.proofs.Common.{◌≡◌, ℕ, ◌+◌, ◌<◌, List, [], ◌∷◌, ◌++◌, length, get_or, take, sym, ap, ◌∙◌}
use Rattle.std.specs.Prelude.{map}
use Rattle.std.proofs.lemmas.List.{take_more, map_push}

-- one more item
pub map_more : {X Y : Type 0} (f : X → Y) (xs : List X) (i : ℕ) (d : X) → i < length xs → map f (take i xs) ++ f (get_or xs i d) ∷ [] ≡ map f (take (i + 1) xs)
map_more f xs i d below = sym (ap (map f) (take_more xs i d below) ∙ map_push f (take i xs) (get_or xs i d))
