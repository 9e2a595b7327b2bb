-- Lists of players that go on.
use Rattle.std.proofs.Common.{ℕ, zero, suc, ◌<◌, List, [], ◌∷◌, get_or, set, length, arith}
use Rattle.std.specs.List.{AllByRecursion, AllZip}
use Rattle.farm_nodes_threads_pace.specs.After.{Goes}
use Rattle.farm_nodes_threads_pace.proofs.Going.{goes_nowhere, goes_through}

-- A player is seen as its node and the turns that it has left.
module _ {P X : Type 0} (turned : X → X → Type 0) (is_fit : X → Type 0) (node : P → X) (left : P → ℕ) where
  pub all_stay : (ps : List P) → AllZip (λ p q. Goes turned is_fit (node p) (left p) (node q) (left q)) ps ps
  all_stay [] = tt
  all_stay (p ∷ ps) = (goes_nowhere turned is_fit (node p) (left p), all_stay ps)

  -- the one at this place
  pub one_goes : (ps qs : List P) (i : ℕ) (d r : P) → AllZip (λ p q. Goes turned is_fit (node p) (left p) (node q) (left q)) ps qs
      → Goes turned is_fit (node (get_or qs i d)) (left (get_or qs i d)) (node r) (left r)
      → AllZip (λ p q. Goes turned is_fit (node p) (left p) (node q) (left q)) ps (set qs i r)
  one_goes [] [] i d r z s = tt
  one_goes [] (q ∷ qs) i d r z s = absurd z
  one_goes (p ∷ ps) [] i d r z s = absurd z
  one_goes (p ∷ ps) (q ∷ qs) zero d r z s =
      (goes_through turned is_fit (node p) (node q) (node r) (left p) (left q) (left r) z.0 s, z.1)
  one_goes (p ∷ ps) (q ∷ qs) (suc i) d r z s = (z.0, one_goes ps qs i d r z.1 s)

  pub all_go : (ps qs rs : List P) → AllZip (λ p q. Goes turned is_fit (node p) (left p) (node q) (left q)) ps qs
      → AllZip (λ p q. Goes turned is_fit (node p) (left p) (node q) (left q)) qs rs
      → AllZip (λ p q. Goes turned is_fit (node p) (left p) (node q) (left q)) ps rs
  all_go [] [] rs z w = w
  all_go [] (q ∷ qs) rs z w = absurd z
  all_go (p ∷ ps) [] rs z w = absurd z
  all_go (p ∷ ps) (q ∷ qs) [] z w = absurd w
  all_go (p ∷ ps) (q ∷ qs) (r ∷ rs) z w =
      (goes_through turned is_fit (node p) (node q) (node r) (left p) (left q) (left r) z.0 w.0, all_go ps qs rs z.1 w.1)

  -- those that go on may be asked for more
  pub all_fit : (ps qs : List P) → AllByRecursion (λ p. is_fit (node p)) ps
      → AllZip (λ p q. Goes turned is_fit (node p) (left p) (node q) (left q)) ps qs → AllByRecursion (λ q. is_fit (node q)) qs
  all_fit [] [] f z = tt
  all_fit [] (q ∷ qs) f z = absurd z
  all_fit (p ∷ ps) [] f z = absurd z
  all_fit (p ∷ ps) (q ∷ qs) f z = (z.0.fit f.0, all_fit ps qs f.1 z.1)

  fit_at : (qs : List P) (i : ℕ) (d : P) → AllByRecursion (λ q. is_fit (node q)) qs → i < length qs → is_fit (node (get_or qs i d))
  fit_at [] i d f l = absurd (omega arith)
  fit_at (q ∷ qs) zero d f l = f.0
  fit_at (q ∷ qs) (suc i) d f l = fit_at qs i d f.1 (omega arith)

  -- and each of them
  pub one_fit : (ps qs : List P) (i : ℕ) (d : P) → AllByRecursion (λ p. is_fit (node p)) ps
      → AllZip (λ p q. Goes turned is_fit (node p) (left p) (node q) (left q)) ps qs → i < length qs → is_fit (node (get_or qs i d))
  one_fit ps qs i d f z l = fit_at qs i d (all_fit ps qs f z) l
