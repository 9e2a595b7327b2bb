-- Functions with bodies, as a loop numbers them.
use Rattle.std.proofs.Common.{◌≡◌, ℕ, ◌+◌, ◌≤◌, ◌<◌, List, [], ◌∷◌, length, drop, map, sym, ap, ◌∙◌}
use Rattle.std.proofs.Math.ListN.{get_or, drop_of_length-le}
use Rattle.c_checker_scopes.specs.Bound.{Bound}
use Rattle.c_syntax.specs.declared.declaration.Declaration.{Declaration}
use Rattle.c_syntax.specs.Views.{declaration_tree}
use Rattle.c_checker_rules.specs.Units.{bodies_from}
use Rattle.c_checker_rules.proofs.Lists.{drop_next}

-- What is left gives what the whole gives, and no number is above its place.
pub record IsNumbering (all : List Declaration) (bodies : List (Bound ℕ)) (number index : ℕ) : Type 0 where
  pub small : number ≤ index
  pub same : bodies_from 0 [] (map declaration_tree all) ≡ bodies_from number bodies (map declaration_tree (drop index all))

-- the next declaration
pub next_same : (all : List Declaration) (bodies : List (Bound ℕ)) (number index : ℕ) (d : Declaration) → index < length all → d ≡ get_or all index d →
    IsNumbering all bodies number index → bodies_from 0 [] (map declaration_tree all) ≡ bodies_from number bodies (declaration_tree d ∷ map declaration_tree (drop (index + 1) all))
next_same all bodies number index d within item so_far =
    so_far.same ∙ ap (λ l. bodies_from number bodies (map declaration_tree l)) (drop_next all index d within item)

pub all_numbered : (all : List Declaration) (bodies : List (Bound ℕ)) (number index : ℕ) → length all ≤ index → IsNumbering all bodies number index → bodies ≡ bodies_from 0 [] (map declaration_tree all)
all_numbered all bodies number index past so_far =
    sym (so_far.same ∙ ap (λ l. bodies_from number bodies (map declaration_tree l)) (drop_of_length-le all past))
