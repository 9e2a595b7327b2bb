-- The functions of a program that has a spelling have C names.
use Rattle.std.proofs.Common.{◌≡◌, ℕ, zero, suc, ◌<◌, List, [], ◌∷◌, ◌++◌, length, get_or, Some, refl, arith}
use Rattle.std.specs.Prelude.{slice_get}
use Rattle.std.specs.List.{AllByRecursion}
use Rattle.lang_base.specs.Texts.{EachFits}
use Rattle.lang_base.specs.declared.program.Named.{Named}
use Rattle.c_lexer_lexemes.specs.Lexemes.{IsName}
use Rattle.lang.specs.Form.{FunctionFits}
use Rattle.linker.specs.Chains.{names_of}

pub are_names : {F : Type 0} (Fits : F → Type 0) (before fs : List (Named F)) → EachFits (FunctionFits Fits) before fs → AllByRecursion (λ f. IsName f.name) fs
are_names Fits before [] fits = tt
are_names Fits before (f ∷ fs) fits = (fits.0.name, are_names Fits (before ++ f ∷ []) fs fits.1)

pub name_at : {F : Type 0} (fs : List (Named F)) (n : ℕ) (f : Named F) → n < length fs → AllByRecursion (λ f. IsName f.name) fs → IsName (get_or fs n f).name
name_at [] n f below are = absurd (omega (arith, below))
name_at (g ∷ fs) zero f below are = are.0
name_at (g ∷ fs) (suc n) f below are = name_at fs n f (omega (arith, below)) are.1

pub named_at : {F : Type 0} (fs : List (Named F)) (n : ℕ) (f : Named F) → n < length fs → slice_get (names_of fs) n ≡ Some (get_or fs n f).name
named_at [] n f below = absurd (omega (arith, below))
named_at (g ∷ fs) zero f below = refl
named_at (g ∷ fs) (suc n) f below = named_at fs n f (omega (arith, below))
