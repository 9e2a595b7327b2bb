-- Lists of what holds something each, and of what they hold.
use Rattle.std.proofs.Common.{◌≡◌, suc, List, [], ◌∷◌, ◌++◌, length, map, refl, ap, arith}
use Rattle.std.specs.List.{AllByRecursion, AllZip}

pub nothing_left : {A : Type 0} (xs : List A) → length xs ≡ 0 → xs ≡ []
nothing_left [] h = refl
nothing_left (x ∷ xs) h = absurd (omega arith)

module _ {A B : Type 0} (f : A → B) where
  -- one more
  pub map_more : (xs : List A) (x : A) (rest : List B) → map f (xs ++ x ∷ []) ++ rest ≡ map f xs ++ f x ∷ rest
  map_more [] x rest = refl
  map_more (y ∷ xs) x rest = ap (λ l. f y ∷ l) (map_more xs x rest)

  pub map_long : (xs : List A) → length (map f xs) ≡ length xs
  map_long [] = refl
  map_long (x ∷ xs) = ap suc (map_long xs)

  pub all_held : (P : B → Type 0) (xs : List A) → AllByRecursion P (map f xs) → AllByRecursion (λ x. P (f x)) xs
  all_held P [] a = tt
  all_held P (x ∷ xs) a = (a.0, all_held P xs a.1)

  pub all_mapped : (P : B → Type 0) (xs : List A) → AllByRecursion (λ x. P (f x)) xs → AllByRecursion P (map f xs)
  all_mapped P [] a = tt
  all_mapped P (x ∷ xs) a = (a.0, all_mapped P xs a.1)

  pub zip_mapped : (R : B → B → Type 0) (xs ys : List A) → AllZip (λ x y. R (f x) (f y)) xs ys → AllZip R (map f xs) (map f ys)
  zip_mapped R [] [] z = tt
  zip_mapped R [] (y ∷ ys) z = absurd z
  zip_mapped R (x ∷ xs) [] z = absurd z
  zip_mapped R (x ∷ xs) (y ∷ ys) z = (z.0, zip_mapped R xs ys z.1)
