-- Comparing two lists item by item, as a loop does.
use Rattle.std.proofs.Common.{◌≡◌, ℕ, Bool, List, [], ◌∷◌, drop, map, refl, sym, ap, ◌∙◌}
use Rattle.std.specs.Prelude.{◌&&◌}
use Rattle.std.specs.Cmp.Lexicographic.{pointwise}
use Rattle.cminor_syntax.specs.Views.{statement_tree, statements_tree}
use Rattle.cminor_syntax.specs.declared.statement.Statement.{Statement}
use Rattle.cminor_form.specs.Reading.{sequence_of}
use Rattle.cminor_codec.proofs.Rows.{statements_named}
use Rattle.cminor_language.specs.Same.{same_statement, same_statements}

-- what is left to be compared from an index on gives what the whole gives
abbrev pub IsUnderWay : {A : Type 0} → (A → A → Bool) → List A → List A → ℕ → Type 0
IsUnderWay eq xs ys i = pointwise eq xs ys ≡ pointwise eq (drop i xs) (drop i ys)

pub pointwise_map : {A B : Type 0} (view : A → B) (eq : B → B → Bool) (xs ys : List A) → pointwise eq (map view xs) (map view ys) ≡ pointwise (λ a b. eq (view a) (view b)) xs ys
pointwise_map view eq [] [] = refl
pointwise_map view eq [] (y ∷ ys) = refl
pointwise_map view eq (x ∷ xs) [] = refl
pointwise_map view eq (x ∷ xs) (y ∷ ys) = ap (λ b. eq (view x) (view y) && b) (pointwise_map view eq xs ys)

pub same_rows : (xs ys : List Statement) → same_statements (statements_tree xs) (statements_tree ys) ≡ pointwise (λ a b. same_statement (statement_tree a) (statement_tree b)) xs ys
same_rows [] [] = refl
same_rows [] (y ∷ ys) = refl
same_rows (x ∷ xs) [] = refl
same_rows (x ∷ xs) (y ∷ ys) = ap (λ b. same_statement (statement_tree x) (statement_tree y) && b) (same_rows xs ys)

pub same_trees : (xs ys : List Statement) → map statement_tree xs ≡ map statement_tree ys → statements_tree xs ≡ statements_tree ys
same_trees xs ys e = sym (statements_named xs) ∙ ap sequence_of e ∙ statements_named ys
