-- Items of lists, by their places.
use Rattle.std.proofs.Common.{◌≡◌, ℕ, zero, suc, Bool, true, false, List, [], ◌∷◌, map, Some, refl, sym, ap, subst, ◌∙◌, inl, inr}
use Rattle.std.specs.Prelude.{slice_get, if◌then◌else◌}
use Rattle.std.specs.List.{AllByRecursion, list_any, filter}
use Rattle.std.proofs.lemmas.Bool.{or_left, or_right}
use Rattle.native_lowering_relation.proofs.Kept.{Among}

pub get_map : {A B : Type 0} (f : A → B) (xs : List A) (k : ℕ) (x : A) → slice_get xs k ≡ Some x → slice_get (map f xs) k ≡ Some (f x)
get_map f [] k x e = cc
get_map f (y ∷ xs) zero x e = let same : y ≡ x = cc in ap (λ z. Some (f z)) same
get_map f (y ∷ xs) (suc k) x e = get_map f xs k x e

pub all_at : {A : Type 0} (P : A → Type 0) (xs : List A) (k : ℕ) (x : A) → AllByRecursion P xs → slice_get xs k ≡ Some x → P x
all_at P [] k x all e = cc
all_at P (y ∷ xs) zero x all e = let same : y ≡ x = cc in subst P same all.0
all_at P (y ∷ xs) (suc k) x all e = all_at P xs k x all.1 e

pub any_at : {A : Type 0} (test : A → Bool) (xs : List A) (k : ℕ) (x : A) → slice_get xs k ≡ Some x → test x ≡ true → list_any test xs ≡ true
any_at test [] k x e passes = cc
any_at test (y ∷ xs) zero x e passes =
    let same : y ≡ x = cc in
    or_left (test y) (list_any test xs) (ap test same ∙ passes)
any_at test (y ∷ xs) (suc k) x e passes = or_right (test y) (list_any test xs) (any_at test xs k x e passes)

first_filtered : (test : ℕ → Bool) (b : Bool) (q r : ℕ) (rest : List ℕ) → test r ≡ true → test q ≡ b → r ≡ q → Among r (if b then q ∷ rest else rest)
first_filtered test true q r rest passes e same = inl same
first_filtered test false q r rest passes e same = let no : true ≡ false = sym passes ∙ ap test same ∙ e in cc

later_filtered : (b : Bool) (q r : ℕ) (rest : List ℕ) → Among r rest → Among r (if b then q ∷ rest else rest)
later_filtered true q r rest among = inr among
later_filtered false q r rest among = among

pub among_filter : (test : ℕ → Bool) (rs : List ℕ) (r : ℕ) → test r ≡ true → Among r rs → Among r (filter test rs)
among_filter test [] r passes among = among
among_filter test (q ∷ rs) r passes (inl same) = first_filtered test (test q) q r (filter test rs) passes refl same
among_filter test (q ∷ rs) r passes (inr among) = later_filtered (test q) q r (filter test rs) (among_filter test rs r passes among)
