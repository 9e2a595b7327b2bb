-- The functions of a checked program, by their numbers and names.
use Rattle.std.proofs.Common.{◌≡◌, ℕ, zero, suc, ◌<◌, List, [], ◌∷◌, length, map, get_or, Some, refl, sym, ap, subst, arith}
use Rattle.std.specs.Prelude.{slice_get}
use Rattle.std.specs.List.{AllByRecursion}
use Rattle.std.proofs.lemmas.List.{length-map}
use Rattle.lang_base.specs.declared.program.Named.{Named}
use Rattle.c_lexer_lexemes.specs.Lexemes.{IsName}
use Rattle.c_program.specs.declared.function.Function.{Function}
use Rattle.c_program.specs.Views.{function_tree}
use Rattle.cminor_syntax.specs.Trees.{FunctionTree}
use Rattle.cminor_lowering.specs.Programs.{low_named}
use Rattle.rtlgen.specs.Refused.{IsFirstTooLarge}
use Rattle.rtlgen_definition.specs.Gen.{gen_named}

-- the first function that needs too many nodes is one of them
is_one : (fs : List (Named FunctionTree)) (i : ℕ) → IsFirstTooLarge fs i → i < length fs
is_one [] i told = absurd told
is_one (f ∷ fs) zero told = omega arith
is_one (f ∷ fs) (suc i) told = let below = is_one fs i told.1 in omega (arith, below)

pub is_function : (fs : List Function) (i : ℕ) → IsFirstTooLarge (map low_named (map function_tree fs)) i → i < length fs
is_function fs i told =
    let below = is_one (map low_named (map function_tree fs)) i told in
    omega (arith, below, length-map (map function_tree fs) low_named, length-map fs function_tree)

pub tree_names : (fs : List Function) → map (λ f. f.name) (map function_tree fs) ≡ map (λ f. f.name) fs
tree_names [] = refl
tree_names (f ∷ fs) = ap (λ names. f.name ∷ names) (tree_names fs)

pub lowered_names : (fs : List Function) → map (λ f. f.name) (map low_named (map function_tree fs)) ≡ map (λ f. f.name) fs
lowered_names [] = refl
lowered_names (f ∷ fs) = ap (λ names. f.name ∷ names) (lowered_names fs)

-- the function of a number has its name
pub named_at : (fs : List Function) (i : ℕ) (f : Function) → i < length fs → f ≡ get_or fs i f → slice_get (map (λ g. g.name) fs) i ≡ Some f.name
named_at [] i f below e = absurd (omega (arith, below))
named_at (g ∷ fs) zero f below e = ap (λ h. Some h.name) (sym e)
named_at (g ∷ fs) (suc i) f below e = named_at fs i f (omega (arith, below)) e

pub name_at : (fs : List Function) (i : ℕ) (f : Function) → i < length fs → f ≡ get_or fs i f → AllByRecursion (λ t. IsName t.name) (map function_tree fs) → IsName f.name
name_at [] i f below e names = absurd (omega (arith, below))
name_at (g ∷ fs) zero f below e names = subst (λ h. IsName h.name) (sym e) names.0
name_at (g ∷ fs) (suc i) f below e names = name_at fs i f (omega (arith, below)) e names.1

-- translating and lowering keep the names
pub translated_names : (fs : List Function) → map (λ f. f.name) (map gen_named (map low_named (map function_tree fs))) ≡ map (λ f. f.name) (map low_named (map function_tree fs))
translated_names [] = refl
translated_names (f ∷ fs) = ap (λ names. f.name ∷ names) (translated_names fs)
