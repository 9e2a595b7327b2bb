-- What is said of all nodes twice is said of each at once.
use Rattle.std.proofs.Common.{List, [], ◌∷◌, All}
use Rattle.std.specs.List.{AllByRecursion}
use Rattle.std.proofs.lemmas.List.Elements.{recursion_from_All}

module _ {X : Type 0} (P Q : X → Type 0) where
  both : (xs : List X) → AllByRecursion P xs → AllByRecursion Q xs → AllByRecursion (λ x. P x × Q x) xs
  both [] p q = tt
  both (x ∷ xs) p q = ((p.0, q.0), both xs p.1 q.1)

  pub all_both : (xs : List X) → All P xs → All Q xs → AllByRecursion (λ x. P x × Q x) xs
  all_both xs p q = both xs (recursion_from_All P xs p) (recursion_from_All Q xs q)
