-- What is known where there is no fault.
use Rattle.std.proofs.Common.{◌≡◌, Bool, true, false, List, [], ◌∷◌, ◌++◌, refl}
use Rattle.c_checker_rules.specs.declared.errors.CheckError.{CheckError}
use Rattle.c_checker_rules.specs.Told.{unless}

pub none_before : (xs ys : List CheckError) → xs ++ ys ≡ [] → xs ≡ []
none_before [] ys e = refl
none_before (x ∷ xs) ys e = absurd cc

pub none_behind : (xs ys : List CheckError) → xs ++ ys ≡ [] → ys ≡ []
none_behind [] ys e = e
none_behind (x ∷ xs) ys e = absurd cc

pub three_parts : (xs ys zs : List CheckError) → xs ++ ys ++ zs ≡ [] → (xs ≡ []) × (ys ≡ []) × (zs ≡ [])
three_parts xs ys zs e = let front = none_before (xs ++ ys) zs e in (none_before xs ys front, none_behind xs ys front, none_behind (xs ++ ys) zs e)

pub four_parts : (xs ys zs us : List CheckError) → xs ++ ys ++ zs ++ us ≡ [] → (xs ≡ []) × (ys ≡ []) × (zs ≡ []) × (us ≡ [])
four_parts xs ys zs us e =
    let front = three_parts xs ys zs (none_before (xs ++ ys ++ zs) us e) in
    (front.0, front.1, front.2, none_behind (xs ++ ys ++ zs) us e)

pub holds : (z : Bool) (fault : CheckError) → unless z fault ≡ [] → z ≡ true
holds true fault e = refl
holds false fault e = absurd cc
