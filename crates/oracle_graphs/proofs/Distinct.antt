-- A list is distinct with one more item that is none of it.
use Rattle.std.proofs.Common.{◌≢◌, ◌+◌, ◌<◌, ℕ, List, [], ◌∷◌, ◌++◌, length, get_or, take, sym, subst}
use Rattle.std.specs.List.{All, AllByRecursion}
use Rattle.std.proofs.lemmas.List.{take_more}
use Rattle.std.proofs.lemmas.List.Elements.{recursion_from_All}
use Rattle.locations.specs.declared.location.Location.{Location}
use Rattle.locations.specs.Fits.{AreDistinct}
use Rattle.locations.proofs.Distinct.{all_append}

distinct_push : (ks : List Location) (k : Location) → AreDistinct ks → AllByRecursion (λ j. j ≢ k) ks → AreDistinct (ks ++ k ∷ [])
distinct_push [] k d new = (tt, tt)
distinct_push (j ∷ ks) k d new = (all_append (λ y. j ≢ y) ks (k ∷ []) d.0 (new.0, tt), distinct_push ks k d.1 new.1)

pub distinct_more : (ls : List Location) (i : ℕ) (d : Location) → i < length ls → AreDistinct (take i ls) → All (λ j. j ≢ get_or ls i d) (take i ls) → AreDistinct (take (i + 1) ls)
distinct_more ls i d below before new =
    subst AreDistinct (sym (take_more ls i d below)) (distinct_push (take i ls) (get_or ls i d) before (recursion_from_All (λ j. j ≢ get_or ls i d) (take i ls) new))
