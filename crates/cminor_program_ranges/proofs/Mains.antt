-- One of the functions of a well formed text is main.
use Rattle.std.proofs.Common.{◌≡◌, ℕ, suc, Bool, true, false, List, [], ◌∷◌, map, Option, Some, None, ◌⊎◌, inl, inr, refl, sym, ap, subst, ◌∙◌}
use Rattle.std.specs.Prelude.{is_some, codes, ◌||◌, IsTrue, if◌then◌else◌}
use Rattle.std.specs.Str.{bytes_eq}
use Rattle.std.proofs.lemmas.Slice.Eq.{bytes_eq-Decides}
use Rattle.std.proofs.Math.Bool.{or-true}
use Rattle.c_checker_scopes.specs.Bound.{Bound, found}
use Rattle.c_syntax.specs.Trees.{DeclarationTree}
use Rattle.c_syntax.specs.Trees as T
use Rattle.c_checker_rules.specs.Units.{File, behind, naming, with_body, bodies_from, functions_from}
use Rattle.cminor_lowering.specs.Programs.{low_named}
use Rattle.lang.specs.Form.{has_main}

abbrev main : List ℕ
main = codes "main"

known_name : (number : ℕ) (bodies : List (Bound ℕ)) (name : List ℕ) (b : Bound ℕ) → found name bodies ≡ Some b → with_body number bodies name ≡ bodies
known_name number bodies name b e = search

new_name : (number : ℕ) (bodies : List (Bound ℕ)) (name : List ℕ) → found name bodies ≡ None → with_body number bodies name ≡ record { name = name; depth = 0; value = number } ∷ bodies
new_name number bodies name e = search

abbrev IsThere : List (Bound ℕ) → Type 0
IsThere bodies = is_some (found main bodies) ≡ true

-- what stands first, or behind it
one_of : (number : ℕ) (bodies : List (Bound ℕ)) (name : List ℕ) → IsThere (record { name = name; depth = 0; value = number } ∷ bodies) → IsThere bodies ⊎ (main ≡ name)
one_of number bodies name there = at (bytes_eq main name) refl there
  where
    at : (z : Bool) → bytes_eq main name ≡ z → is_some (if z then Some (record { name = name; depth = 0; value = number }) else found main bodies) ≡ true → IsThere bodies ⊎ (main ≡ name)
    at true e found_there = inr ((bytes_eq-Decides main name).0 e)
    at false e found_there = inl found_there

before_or_here : (number : ℕ) (bodies : List (Bound ℕ)) (name : List ℕ) → IsThere (with_body number bodies name) → IsThere bodies ⊎ (main ≡ name)
before_or_here number bodies name there = at (found name bodies) refl
  where
    at : (r : Option (Bound ℕ)) → found name bodies ≡ r → IsThere bodies ⊎ (main ≡ name)
    at (Some b) e = inl (subst IsThere (known_name number bodies name b e) there)
    at None e = one_of number bodies name (subst IsThere (new_name number bodies name e) there)

module _ (all : List (Bound ℕ)) where
  abbrev HasMainFrom : File → List DeclarationTree → Type 0
  HasMainFrom file ds = IsTrue (has_main (map low_named (functions_from all file ds)))

  pub main_from : (file : File) (ds : List DeclarationTree) (number : ℕ) (bodies : List (Bound ℕ)) → IsThere (bodies_from number bodies ds) → IsThere bodies ⊎ HasMainFrom file ds
  main_from file [] number bodies there = inl there
  main_from file (T.Global g ∷ ds) number bodies there = main_from (behind file (T.Global g)) ds number bodies there
  main_from file (T.Prototype' p ∷ ds) number bodies there = main_from (behind file (T.Prototype' p)) ds number bodies there
  main_from file (T.Function g ∷ ds) number bodies there = later (main_from (naming file g) ds (suc number) (with_body number bodies g.name.name) there)
    where
      name : List ℕ
      name = g.name.name

      rest : Bool
      rest = has_main (map low_named (functions_from all (naming file g) ds))

      here : IsThere bodies ⊎ (main ≡ name) → IsThere bodies ⊎ HasMainFrom file (T.Function g ∷ ds)
      here (inl before) = inl before
      here (inr same) = inr (ap (λ z. z || rest) ((bytes_eq-Decides name main).1 (sym same)))

      later : IsThere (with_body number bodies name) ⊎ HasMainFrom (naming file g) ds → IsThere bodies ⊎ HasMainFrom file (T.Function g ∷ ds)
      later (inl before) = here (before_or_here number bodies name before)
      later (inr behind_it) = inr (ap (λ z. bytes_eq name main || z) behind_it ∙ or-true (bytes_eq name main))
