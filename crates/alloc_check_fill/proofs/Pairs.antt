-- Registers and locations, one with one, in the order of both lists.
use Rattle.std.proofs.Common.{◌≡◌, ℕ, zero, suc, ◌+◌, ◌≤◌, List, [], ◌∷◌, ◌++◌, length, take, Some, None, refl, sym, ap, ◌∙◌, arith}
use Rattle.std.specs.Prelude.{map, slice_get}
use Rattle.std.proofs.lemmas.List.{append_assoc, map-append, take_more}
use Rattle.std.proofs.lemmas.Option.{slice_get_within, get_or_from_slice_get}
use Rattle.locations.specs.declared.location.Location.{Location}
use Rattle.alloc_check_rules.specs.Pairs.{equations_of}

pub pairs_few : (rs : List ℕ) (ls : List Location) → length (equations_of rs ls) ≤ length rs
pairs_few [] ls = omega arith
pairs_few (r ∷ rs) [] = omega arith
pairs_few (r ∷ rs) (l ∷ ls) = omega (arith, pairs_few rs ls)

pub pair_got : (rs : List ℕ) (ls : List Location) (k r : ℕ) (l : Location) → slice_get rs k ≡ Some r → slice_get ls k ≡ Some l → slice_get (equations_of rs ls) k ≡ Some (record { register = r; location = l })
pair_got [] ls k r l is also = absurd cc
pair_got (q ∷ rs) [] k r l is also = absurd cc
pair_got (q ∷ rs) (m ∷ ls) zero r l is also =
    let name : q ≡ r = cc in
    let same_location : m ≡ l = cc in
    λ i. Some (record { register = name i; location = same_location i })
pair_got (q ∷ rs) (m ∷ ls) (suc k) r l is also = pair_got rs ls k r l is also

pub no_name : (rs : List ℕ) (ls : List Location) (k : ℕ) → slice_get rs k ≡ None → slice_get (equations_of rs ls) k ≡ None
no_name [] ls k is = refl
no_name (q ∷ rs) [] k is = refl
no_name (q ∷ rs) (m ∷ ls) zero is = absurd cc
no_name (q ∷ rs) (m ∷ ls) (suc k) is = no_name rs ls k is

pub no_location : (rs : List ℕ) (ls : List Location) (k : ℕ) → slice_get ls k ≡ None → slice_get (equations_of rs ls) k ≡ None
no_location [] ls k is = refl
no_location (q ∷ rs) [] k is = refl
no_location (q ∷ rs) (m ∷ ls) zero is = absurd cc
no_location (q ∷ rs) (m ∷ ls) (suc k) is = no_location rs ls k is

-- past the end nothing is got
pub past_of : {A : Type 0} (xs : List A) (place : ℕ) → slice_get xs place ≡ None → length xs ≤ place
past_of [] place none = omega arith
past_of (x ∷ xs) zero none = absurd cc
past_of (x ∷ xs) (suc place) none = omega (arith, past_of xs place none)

-- one more of those that are made of a list's items
pub mapped_more : {A B : Type 0} (f : A → B) (xs : List A) (k : ℕ) (x : A) (before after next : List B) → slice_get xs k ≡ Some x → after ≡ before ++ map f (take k xs) → next ≡ after ++ f x ∷ [] → next ≡ before ++ map f (take (k + 1) xs)
mapped_more f xs k x before after next is far more =
    let more_taken : take (k + 1) xs ≡ take k xs ++ x ∷ [] = take_more xs k x (slice_get_within xs k x is) ∙ ap (λ y. take k xs ++ y ∷ []) (get_or_from_slice_get xs k x x is) in
    more
    ∙ ap (λ ys. ys ++ f x ∷ []) far
    ∙ append_assoc before (map f (take k xs)) (f x ∷ [])
    ∙ ap (λ ys. before ++ ys) (sym (map-append f (take k xs) (x ∷ [])))
    ∙ ap (λ ys. before ++ map f ys) (sym more_taken)
