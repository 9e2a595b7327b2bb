-- Moves are gone back through from the last.
use Rattle.std.proofs.Common.{◌≡◌, ℕ, zero, suc, ◌<◌, List, [], ◌∷◌, length, get_or, take, refl, ap, arith}
use Rattle.locations.specs.declared.location.Location.{Location}
use Rattle.locations.specs.declared.location.Move.{Move}
use Rattle.alloc_check_rules.specs.Equations.{back, back_move}

pub back_last : (ms : List Move) (k : ℕ) (d : Move) (l : Location) → k < length ms → back (take (suc k) ms) l ≡ back (take k ms) (back_move (get_or ms k d) l)
back_last [] k d l below = absurd (omega (arith, below))
back_last (m ∷ ms) zero d l below = refl
back_last (m ∷ ms) (suc k) d l below = ap (back_move m) (back_last ms k d l (omega (arith, below)))
