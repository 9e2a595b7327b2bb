-- Rows of sights.
use Rattle.std.proofs.Common.{◌≡◌, ℕ, zero, suc, ◌<◌, List, [], ◌∷◌, map, length, set, get_or, None, refl, sym, ap, ◌∙◌, subst, arith}
use Rattle.rooms_cells.specs.declared.sight.Put.{Put}
use Rattle.rooms_cells.specs.declared.sight.Put.TheVariants as put
use Rattle.rooms_cells.specs.Seen.{SightOf, IsPut, names_of, unseen}

-- what stands in a row, and in the row of its images
pub get_or-map : {A B : Type 0} (f : A → B) (xs : List A) (j : ℕ) (d : A) (e : B) → j < length xs → f (get_or xs j d) ≡ get_or (map f xs) j e
get_or-map f [] j d e lt = absurd (omega arith)
get_or-map f (x ∷ xs) zero d e lt = refl
get_or-map f (x ∷ xs) (suc j) d e lt = get_or-map f xs j d e (omega arith)

-- another of the same image leaves the images
pub map-set_same : {A B : Type 0} (f : A → B) (xs : List A) (j : ℕ) (y d : A) → f y ≡ f (get_or xs j d) → map f (set xs j y) ≡ map f xs
map-set_same f [] j y d e = refl
map-set_same f (x ∷ xs) zero y d e = ap (λ z. z ∷ map f xs) e
map-set_same f (x ∷ xs) (suc j) y d e = ap (λ zs. f x ∷ zs) (map-set_same f xs j y d e)

-- a row of seven, one by one
pub seven : {A B : Type 0} (f : A → B) (d : A) (xs : List A) → length xs ≡ 7
    → f (get_or xs 0 d) ∷ f (get_or xs 1 d) ∷ f (get_or xs 2 d) ∷ f (get_or xs 3 d) ∷ f (get_or xs 4 d) ∷ f (get_or xs 5 d) ∷ f (get_or xs 6 d) ∷ [] ≡ map f xs
seven f d [] e = absurd (omega arith)
seven f d (x0 ∷ []) e = absurd (omega arith)
seven f d (x0 ∷ x1 ∷ []) e = absurd (omega arith)
seven f d (x0 ∷ x1 ∷ x2 ∷ []) e = absurd (omega arith)
seven f d (x0 ∷ x1 ∷ x2 ∷ x3 ∷ []) e = absurd (omega arith)
seven f d (x0 ∷ x1 ∷ x2 ∷ x3 ∷ x4 ∷ []) e = absurd (omega arith)
seven f d (x0 ∷ x1 ∷ x2 ∷ x3 ∷ x4 ∷ x5 ∷ []) e = absurd (omega arith)
seven f d (x0 ∷ x1 ∷ x2 ∷ x3 ∷ x4 ∷ x5 ∷ x6 ∷ []) e = refl
seven f d (x0 ∷ x1 ∷ x2 ∷ x3 ∷ x4 ∷ x5 ∷ x6 ∷ x7 ∷ xs) e = absurd (omega arith)

pub length-map : {A B : Type 0} (f : A → B) (xs : List A) → length (map f xs) ≡ length xs
length-map f [] = refl
length-map f (x ∷ xs) = ap suc (length-map f xs)

pub names_of-unseen : (T : Type 0) (names : List ℕ) → names_of (unseen {T = T} names) ≡ names
names_of-unseen T [] = refl
names_of-unseen T (n ∷ ns) = ap (λ ms. n ∷ ms) (names_of-unseen T ns)

-- the sights of seven cells, one by one
pub seven_unseen : {T : Type 0} (names : List ℕ) (a b c d e f g : SightOf T) → length names ≡ 7
    → a ≡ record { cell = get_or names 0 0; value = None } → b ≡ record { cell = get_or names 1 0; value = None }
    → c ≡ record { cell = get_or names 2 0; value = None } → d ≡ record { cell = get_or names 3 0; value = None }
    → e ≡ record { cell = get_or names 4 0; value = None } → f ≡ record { cell = get_or names 5 0; value = None }
    → g ≡ record { cell = get_or names 6 0; value = None } → a ∷ b ∷ c ∷ d ∷ e ∷ f ∷ g ∷ [] ≡ unseen names
seven_unseen {T} names a b c d e f g size ea eb ec ed ee ef eg =
    (λ k. ea k ∷ eb k ∷ ec k ∷ ed k ∷ ee k ∷ ef k ∷ eg k ∷ [])
    ∙ seven {B = SightOf T} (λ (n : ℕ). record { cell = n; value = None }) 0 names size

-- what is put is put into the cell that was seen
pub put_cell : {B T : Type 0} (told : Put B) (b : B) (x : T) (old new : SightOf T) → IsPut told b x old new → new.cell ≡ old.cell
put_cell put.Yes b x old new h = ap (λ s. s.cell) h.1
put_cell (put.No back) b x old new h = ap (λ s. s.cell) h.1
put_cell (put.NoMemory back) b x old new h = ap (λ s. s.cell) h.1

-- the sight of cell k, of which nothing is seen
pub unseen_at : {T : Type 0} (s : SightOf T) (n k : ℕ) (ns names : List ℕ) → s ≡ record { cell = n; value = None } → n ≡ get_or ns k 0 → ns ≡ names
    → s ≡ record { cell = get_or names k 0; value = None }
unseen_at {T} s n k ns names e h q = e ∙ ap {B = SightOf T} (λ (m : ℕ). record { cell = m; value = None }) (h ∙ ap (λ (xs : List ℕ). get_or xs k 0) q)
