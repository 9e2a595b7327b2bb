-- A list with one more, and lists of what took turns, said more widely.
use Rattle.std.proofs.Common.{List, [], ◌∷◌, ◌++◌}
use Rattle.std.specs.List.{AllByRecursion, AllZip}

pub all_more : {A : Type 0} (P : A → Type 0) (xs : List A) (x : A) → AllByRecursion P xs → P x → AllByRecursion P (xs ++ x ∷ [])
all_more P [] x all one = (one, tt)
all_more P (y ∷ xs) x all one = (all.0, all_more P xs x all.1 one)

pub all_wider : {A : Type 0} (P : A → Type 0) (R S : A → A → Type 0) (xs ys : List A) → ((x y : A) → P x → R x y → S x y)
    → AllByRecursion P xs → AllZip R xs ys → AllZip S xs ys
all_wider P R S [] [] wide all z = tt
all_wider P R S [] (y ∷ ys) wide all z = absurd z
all_wider P R S (x ∷ xs) [] wide all z = absurd z
all_wider P R S (x ∷ xs) (y ∷ ys) wide all z = (wide x y all.0 z.0, all_wider P R S xs ys wide all.1 z.1)
