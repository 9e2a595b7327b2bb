-- Teams of which the last have begun.
use Rattle.std.specs.Prelude.{List, [], ◌∷◌, ◌++◌}

-- those that are here, and behind them those that the others were begun with, of which the one begun first is the last
abbrev pub with_begun : {V H : Type 0} → (H → V) → List V → List H → List V
with_begun begun here [] = here
with_begun begun here (child ∷ children) = with_begun begun here children ++ begun child ∷ []
