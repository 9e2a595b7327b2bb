-- When the words of a running function of Cminor are those of one of C: what is defined in C is so in Cminor, and a spare
-- variable stands behind all locals.
use Rattle.std.proofs.Common.{◌≡◌, ◌≢◌, ℕ, zero, suc, ◌<◌, ◌≤◌, List, [], ◌∷◌, length, Option, Some, None, refl, ◌∙◌, arith}
use Rattle.std.specs.Prelude.{slice_index_or, slice_set}
use Rattle.std.proofs.lemmas.List.{length-set, get_or-set_same, get_or-set_other}
use Rattle.c_program.specs.State as C
use Rattle.cminor_syntax.specs.State as M

-- globals and output are the same
pub record Shares (s : C.State) (t : M.State) : Type 0 where
  pub globals : t.globals ≡ s.globals
  pub output : t.output ≡ s.output

-- the words of the first are those of the second, where they are defined
abbrev pub Holds : List (Option ℕ) → List (Option ℕ) → Type 0
Holds xs ys = (i w : ℕ) → slice_index_or xs i None ≡ Some w → slice_index_or ys i None ≡ Some w

pub record Sees (spare : ℕ) (s : C.State) (t : M.State) : Type 0 where
  pub holds : Holds s.locals t.variables
  pub below : length s.locals ≤ spare
  pub space : spare < length t.variables
  pub shares : Shares s t

-- ---- one word is set

pub lost_holds : (xs : List (Option ℕ)) (n i w : ℕ) → slice_index_or (slice_set xs n None) i None ≡ Some w → slice_index_or xs i None ≡ Some w
lost_holds [] n i w e = e
lost_holds (x ∷ xs) zero zero w e = absurd cc
lost_holds (x ∷ xs) zero (suc i) w e = e
lost_holds (x ∷ xs) (suc n) zero w e = e
lost_holds (x ∷ xs) (suc n) (suc i) w e = lost_holds xs n i w e

pub set_holds : (xs ys : List (Option ℕ)) (n : ℕ) (v : Option ℕ) → Holds xs ys → length xs ≤ length ys → Holds (slice_set xs n v) (slice_set ys n v)
set_holds [] ys n v h le i w e = absurd cc
set_holds (x ∷ xs) [] n v h le i w e = absurd (omega (arith, le))
set_holds (x ∷ xs) (y ∷ ys) zero v h le zero w e = e
set_holds (x ∷ xs) (y ∷ ys) zero v h le (suc i) w e = h (suc i) w e
set_holds (x ∷ xs) (y ∷ ys) (suc n) v h le zero w e = h zero w e
set_holds (x ∷ xs) (y ∷ ys) (suc n) v h le (suc i) w e = set_holds xs ys n v (λ j u. h (suc j) u) (omega (arith, le)) i w e

is_within : (xs : List (Option ℕ)) (i w : ℕ) → slice_index_or xs i None ≡ Some w → i < length xs
is_within [] i w e = absurd cc
is_within (x ∷ xs) zero w e = omega arith
is_within (x ∷ xs) (suc i) w e = let h = is_within xs i w e in omega (arith, h)

pub spare_holds : (xs ys : List (Option ℕ)) (spare : ℕ) (v : Option ℕ) → length xs ≤ spare → Holds xs ys → Holds xs (slice_set ys spare v)
spare_holds xs ys spare v below h i w e =
    let within = is_within xs i w e in
    let other : i ≢ spare = λ same. omega (arith, within, below, same) in
    get_or-set_other ys spare i v None other ∙ h i w e

-- ---- states

pub sees_lost : (spare n : ℕ) (s : C.State) (t : M.State) → Sees spare s t → Sees spare (C.with_local n None s) t
sees_lost spare n s t sees = record {
  holds = λ i w e. sees.holds i w (lost_holds s.locals n i w e);
  below = rw (length-set s.locals n None) sees.below;
  space = sees.space;
  shares = record { globals = sees.shares.globals; output = sees.shares.output };
}

pub sees_set : (spare n w : ℕ) (s : C.State) (t : M.State) → Sees spare s t → Sees spare (C.with_local n (Some w) s) (M.given (Some n) (Some w) t)
sees_set spare n w s t sees = record {
  holds = set_holds s.locals t.variables n (Some w) sees.holds (omega (arith, sees.below, sees.space));
  below = rw (length-set s.locals n (Some w)) sees.below;
  space = rw (length-set t.variables n (Some w)) sees.space;
  shares = record { globals = sees.shares.globals; output = sees.shares.output };
}

pub sees_spare : (spare w : ℕ) (s : C.State) (t : M.State) → Sees spare s t → Sees spare s (M.given (Some spare) (Some w) t)
sees_spare spare w s t sees = record {
  holds = spare_holds s.locals t.variables spare (Some w) sees.below sees.holds;
  below = sees.below;
  space = rw (length-set t.variables spare (Some w)) sees.space;
  shares = record { globals = sees.shares.globals; output = sees.shares.output };
}

-- what the spare variable holds, once it is set
pub spare_held : (spare w : ℕ) (t : M.State) → spare < length t.variables → M.held spare (M.given (Some spare) (Some w) t) ≡ Some w
spare_held spare w t space = get_or-set_same t.variables spare (Some w) None space

-- the same locals, with other globals and another output
pub sees_with : (spare : ℕ) (s : C.State) (t : M.State) (globals : List (List ℕ)) (output : List ℕ) → Sees spare s t →
    Sees spare (record { locals = s.locals; globals = globals; output = output }) (record { variables = t.variables; globals = globals; output = output })
sees_with spare s t globals output sees = record { holds = sees.holds; below = sees.below; space = sees.space; shares = record { globals = refl; output = refl } }
