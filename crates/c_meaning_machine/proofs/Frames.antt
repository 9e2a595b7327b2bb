-- The locals behind a base.
use Rattle.std.proofs.Common.{◌≡◌, ℕ, ◌+◌, List, drop, set, get_or}
use Rattle.std.proofs.lemmas.List.{drop-set-add, get_or-drop}

pub set_behind : {A : Type 0} (n : ℕ) (xs : List A) (i : ℕ) (x : A) → drop n (set xs (n + i) x) ≡ set (drop n xs) i x
set_behind n xs i x = drop-set-add n xs i x

pub get_behind : {A : Type 0} (n : ℕ) (xs : List A) (i : ℕ) (x : A) → get_or (drop n xs) i x ≡ get_or xs (n + i) x
get_behind n xs i x = get_or-drop n xs i x
