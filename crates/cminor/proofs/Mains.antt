-- In a well formed text the function whose number the checker gives as that of `main` is the first of that name.
use Rattle.std.proofs.Common.{◌≡◌, ℕ, suc, ◌+◌, Bool, true, false, cond, List, [], ◌∷◌, ◌++◌, map, Option, Some, None, refl, sym, ap, subst, ◌∙◌, arith}
use Rattle.std.specs.Prelude.{is_some, codes, ◌&&◌}
use Rattle.std.specs.Str.{bytes_eq}
use Rattle.std.proofs.lemmas.Slice.Eq.{bytes_eq-Decides}
use Rattle.lang_base.specs.declared.program.Named.{Named}
use Rattle.cminor_syntax.specs.Frames.{main_number}
use Rattle.c_checker_scopes.specs.Bound.{Bound, found}
use Rattle.c_checker_scopes.proofs.Laws.{found-same, found-other}
use Rattle.c_syntax.specs.Trees.{DeclarationTree, UnitTree}
use Rattle.c_syntax.specs.Trees as T
use Rattle.c_checker_rules.specs.declared.errors.CheckError.{CheckError}
use Rattle.c_checker_rules.specs.declared.errors.CheckError.TheVariants.{NoMain}
use Rattle.c_checker_rules.specs.Told.{unless}
use Rattle.c_checker_rules.specs.Calls.{number_of}
use Rattle.c_checker_rules.specs.Functions.{function_of}
use Rattle.c_checker_rules.specs.Units.{File, empty_file, behind, naming, known, with_body, bodies_from, bodies_of, functions_from, declarations_faults, IsWellFormed, program_of}
use Rattle.cminor_syntax.specs.Trees.{FunctionTree}
use Rattle.cminor_lowering.specs.Programs.{low_named, HasMain}

-- ---- what a body's name adds

with_known : (number : ℕ) (bodies : List (Bound ℕ)) (name : List ℕ) (b : Bound ℕ) → found name bodies ≡ Some b → with_body number bodies name ≡ bodies
with_known number bodies name b e = search

with_new : (number : ℕ) (bodies : List (Bound ℕ)) (name : List ℕ) → found name bodies ≡ None → with_body number bodies name ≡ record { name = name; depth = 0; value = number } ∷ bodies
with_new number bodies name e = search

-- a name that is there stays
stays : (x : List ℕ) (number : ℕ) (bodies : List (Bound ℕ)) (name : List ℕ) (b : Bound ℕ) → found x bodies ≡ Some b → found x (with_body number bodies name) ≡ Some b
stays x number bodies name b e = at (found name bodies) refl
  where
    at : (r : Option (Bound ℕ)) → found name bodies ≡ r → found x (with_body number bodies name) ≡ Some b
    at (Some c) q = ap (found x) (with_known number bodies name c q) ∙ e
    at None q =
        let new : Bound ℕ = record { name = name; depth = 0; value = number } in
        ap (found x) (with_new number bodies name q) ∙ found-other x new bodies (λ same. absurd (none_is_some b (sym q ∙ ap (λ n. found n bodies) (sym same) ∙ e))) ∙ e
      where
        none_is_some : (c : Bound ℕ) → None ≡ Some c → ⊥
        none_is_some c f = cc

all_stays : (x : List ℕ) (number : ℕ) (bodies : List (Bound ℕ)) (ds : List DeclarationTree) (b : Bound ℕ) → found x bodies ≡ Some b → found x (bodies_from number bodies ds) ≡ Some b
all_stays x number bodies [] b e = e
all_stays x number bodies (T.Global g ∷ ds) b e = all_stays x number bodies ds b e
all_stays x number bodies (T.Function g ∷ ds) b e = all_stays x (suc number) (with_body number bodies g.name.name) ds b (stays x number bodies g.name.name b e)
all_stays x number bodies (T.Prototype' p ∷ ds) b e = all_stays x number bodies ds b e

-- another name adds nothing
adds_nothing : (x : List ℕ) (number : ℕ) (bodies : List (Bound ℕ)) (name : List ℕ) → (x ≡ name → ⊥) → found x bodies ≡ None → found x (with_body number bodies name) ≡ None
adds_nothing x number bodies name other e = at (found name bodies) refl
  where
    at : (r : Option (Bound ℕ)) → found name bodies ≡ r → found x (with_body number bodies name) ≡ None
    at (Some c) q = ap (found x) (with_known number bodies name c q) ∙ e
    at None q = ap (found x) (with_new number bodies name q) ∙ found-other x (record { name = name; depth = 0; value = number }) bodies other ∙ e

-- ---- the number of main

abbrev main : List ℕ
main = codes "main"

abbrev numbered : List (Named FunctionTree) → ℕ
numbered fs = main_number (λ f. true) fs

-- the first of these is main
first_is : (f : Named FunctionTree) (fs : List (Named FunctionTree)) → bytes_eq f.name main ≡ true → numbered (f ∷ fs) ≡ 0
first_is f fs e = ap (λ z. cond (z && true) 0 (suc (numbered fs))) e

-- main stands behind the first
behind_first : (f : Named FunctionTree) (fs : List (Named FunctionTree)) → bytes_eq f.name main ≡ false → numbered (f ∷ fs) ≡ suc (numbered fs)
behind_first f fs e = ap (λ z. cond (z && true) 0 (suc (numbered fs))) e

not_there : (r : Option (Bound ℕ)) → r ≡ None → is_some r ≡ true → ⊥
not_there r e s = cc

module _ (all : List (Bound ℕ)) where
  number_is : (file : File) (ds : List DeclarationTree) (number : ℕ) (bodies : List (Bound ℕ)) → found main bodies ≡ None → is_some (found main (bodies_from number bodies ds)) ≡ true →
      number + numbered (map low_named (functions_from all file ds)) ≡ number_of (found main (bodies_from number bodies ds))
  number_is file [] number bodies e s = absurd (not_there (found main bodies) e s)
  number_is file (T.Global g ∷ ds) number bodies e s = number_is (behind file (T.Global g)) ds number bodies e s
  number_is file (T.Prototype' p ∷ ds) number bodies e s = number_is (behind file (T.Prototype' p)) ds number bodies e s
  number_is file (T.Function g ∷ ds) number bodies e s =
      at (λ none. number_is (naming file g) ds (suc number) (with_body number bodies g.name.name) none s) (bytes_eq g.name.name main) refl
    where
      name : List ℕ
      name = g.name.name

      here : Named FunctionTree
      here = low_named (function_of (known all (naming file g)) (naming file g).scope g)

      rest : List (Named FunctionTree)
      rest = map low_named (functions_from all (naming file g) ds)

      at : (found main (with_body number bodies name) ≡ None → suc number + numbered rest ≡ number_of (found main (bodies_from (suc number) (with_body number bodies name) ds))) →
          (z : Bool) → bytes_eq name main ≡ z → number + numbered (map low_named (functions_from all file (T.Function g ∷ ds))) ≡ number_of (found main (bodies_from number bodies (T.Function g ∷ ds)))
      at later true q =
          let same : name ≡ main = (bytes_eq-Decides name main).0 q in
          let new : Bound ℕ = record { name = name; depth = 0; value = number } in
          let bound : found main (with_body number bodies name) ≡ Some new =
          ap (found main) (with_new number bodies name (ap (λ n. found n bodies) same ∙ e)) ∙ subst (λ n. found n (new ∷ bodies) ≡ Some new) same (found-same new bodies) in
          ap (λ n. number + n) (first_is here rest q) ∙ (omega arith) ∙ sym (ap number_of (all_stays main (suc number) (with_body number bodies name) ds new bound))
      at later false q =
          let other : main ≡ name → ⊥ = λ same. differs q (sym same) in
          let none = adds_nothing main number bodies name other e in
          ap (λ n. number + n) (behind_first here rest q) ∙ (omega arith) ∙ later none
        where
          differs : bytes_eq name main ≡ false → name ≡ main → ⊥
          differs f same = absurd (true_is_false (sym ((bytes_eq-Decides name main).1 same) ∙ f))
            where
              true_is_false : true ≡ false → ⊥
              true_is_false t = cc

-- ---- well formed texts

nothing_behind : (xs ys : List CheckError) → xs ++ ys ≡ [] → ys ≡ []
nothing_behind [] ys e = e
nothing_behind (x ∷ xs) ys e = absurd cc

holds : (z : Bool) (fault : CheckError) → unless z fault ≡ [] → z ≡ true
holds true fault e = refl
holds false fault e = absurd cc

none_before : (n : ℕ) → n ≡ 0 + n
none_before n = omega arith

pub program_has_main : (u : UnitTree) → IsWellFormed u → HasMain (program_of u)
program_has_main u well =
    let there = holds (is_some (found main (bodies_of u))) (NoMain u.end) (nothing_behind (declarations_faults (bodies_of u) empty_file u.declarations) (unless (is_some (found main (bodies_of u))) (NoMain u.end)) well) in
    none_before _ ∙ number_is (bodies_of u) empty_file u.declarations 0 [] refl there
