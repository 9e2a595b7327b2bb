-- Lists that are made one after another, seen place by place.
use Rattle.std.proofs.Common.{◌≡◌, ℕ, zero, suc, ◌<◌, List, [], ◌∷◌, ◌++◌, length, map, All, Some, refl, sym, ap, subst, ◌∙◌, arith, append_assoc}
use Rattle.std.specs.Prelude.{slice_get}
use Rattle.std.proofs.lemmas.List.{append-nil}
use Rattle.std.proofs.lemmas.List.Elements.{All-nil, All-cons, All-get_or}
use Rattle.std.proofs.lemmas.Option.{slice_get_within, get_or_from_slice_get}

-- there is something in front of the end
pub found_at : {X : Type 0} (xs : List X) (i : ℕ) → i < length xs → (x : X) × (slice_get xs i ≡ Some x)
found_at [] i low = absurd (omega (arith, low))
found_at (x ∷ xs) zero low = (x, refl)
found_at (x ∷ xs) (suc i) low = found_at xs i (omega (arith, low))

-- what stands in a list of what is made of each
pub map_at : {X Y : Type 0} (f : X → Y) (xs : List X) (i : ℕ) (y : Y) → slice_get (map f xs) i ≡ Some y → (x : X) × (slice_get xs i ≡ Some x) × (f x ≡ y)
map_at f [] zero y got = absurd (cc)
map_at f [] (suc i) y got = absurd (cc)
map_at f (x ∷ xs) zero y got = (x, refl, let same : Some (f x) ≡ Some y = got in cc)
map_at f (x ∷ xs) (suc i) y got = map_at f xs i y got

pub at_map : {X Y : Type 0} (f : X → Y) (xs : List X) (i : ℕ) (x : X) → slice_get xs i ≡ Some x → slice_get (map f xs) i ≡ Some (f x)
at_map f [] i x got = absurd (omega (arith, slice_get_within [] i x got))
at_map f (y ∷ xs) zero x got = let same : Some y ≡ Some x = got in ap (λ z. Some (f z)) cc
at_map f (y ∷ xs) (suc i) x got = at_map f xs i x got

-- the item in a list, and the item behind it
pub at_front : {X : Type 0} (xs : List X) (y : X) (i : ℕ) → i < length xs → slice_get (xs ++ y ∷ []) i ≡ slice_get xs i
at_front [] y i low = absurd (omega (arith, low))
at_front (x ∷ xs) y zero low = refl
at_front (x ∷ xs) y (suc i) low = at_front xs y i (omega (arith, low))

pub at_end : {X : Type 0} (xs : List X) (y : X) → slice_get (xs ++ y ∷ []) (length xs) ≡ Some y
at_end [] y = refl
at_end (x ∷ xs) y = at_end xs y

pub all_from : {X : Type 0} (P : X → Type 0) (xs : List X) → ((i : ℕ) (x : X) → slice_get xs i ≡ Some x → P x) → All P xs
all_from P [] holds = All-nil P
all_from P (x ∷ xs) holds = All-cons P x xs (holds 0 x refl) (all_from P xs (λ i y got. holds (suc i) y got))

pub all_at : {X : Type 0} (P : X → Type 0) (xs : List X) (i : ℕ) (x : X) → All P xs → slice_get xs i ≡ Some x → P x
all_at P xs i x all got = subst P (get_or_from_slice_get xs i x x got) (All-get_or P xs i x (slice_get_within xs i x got) all)

-- the next of a list goes behind those in front of it
pub moved_on : {X : Type 0} (done more : List X) (z : X) (left rest all : List X) → more ≡ done ++ z ∷ [] → left ≡ z ∷ rest → done ++ left ≡ all → more ++ rest ≡ all
moved_on done more z left rest all more_is left_is before =
    let joined : (done ++ z ∷ []) ++ rest ≡ done ++ z ∷ rest = simp append_assoc in
    ap (λ zs. zs ++ rest) more_is ∙ joined ∙ ap (λ l. done ++ l) (sym left_is) ∙ before

-- nothing is left
pub all_there : {X : Type 0} (done left all : List X) → left ≡ [] → done ++ left ≡ all → done ≡ all
all_there done left all none before = sym (append-nil done) ∙ ap (λ l. done ++ l) (sym none) ∙ before

pub empty : {X : Type 0} (xs : List X) → length xs ≡ 0 → xs ≡ []
empty [] e = refl
empty (x ∷ xs) e = absurd (omega (arith, e))

-- all of what is made of each
pub all_map : {X Y : Type 0} (f : X → Y) (P : Y → Type 0) (xs : List X) → All P (map f xs) → All (λ (x : X). P (f x)) xs
all_map f P xs all = all_from (λ x. P (f x)) xs (λ i x got. all_at P (map f xs) i (f x) all (at_map f xs i x got))
