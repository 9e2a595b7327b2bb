-- The last statement of a sequence.
use Rattle.std.proofs.Common.{◌≡◌, suc, ◌-◌, Bool, false, List, [], ◌∷◌, length, Option, Some, None, refl, ap, ◌∙◌, arith}
use Rattle.std.specs.Prelude.{slice_get}
use Rattle.cminor_syntax.specs.declared.statement.Statement.{Statement}
use Rattle.cminor_syntax.specs.Views.{statement_tree, statements_tree}
use Rattle.rtlgen_definition.specs.Gen.{ends_with_value, last_with_value}

abbrev pub ends_there : Option Statement → Bool
ends_there None = false
ends_there (Some s) = ends_with_value (statement_tree s)

pub last_ends : (ss : List Statement) → last_with_value (statements_tree ss) ≡ ends_there (slice_get ss (length ss - 1))
last_ends [] = refl
last_ends (s ∷ []) = refl
last_ends (s ∷ t ∷ rest) = last_ends (t ∷ rest) ∙ ap (λ n. ends_there (slice_get (s ∷ t ∷ rest) n)) same
  where
    same : suc (length (t ∷ rest) - 1) ≡ length (s ∷ t ∷ rest) - 1
    same = omega arith
