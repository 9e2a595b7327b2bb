-- The numbers of a program that has a spelling are in range.
use Rattle.std.proofs.Common.{ℕ, zero, suc, ◌<◌, ◌≤◌, List, [], ◌∷◌, ◌++◌, length, get_or, arith}
use Rattle.std.specs.List.{AllByRecursion}
use Rattle.lang_base.specs.Texts.{EachFits}
use Rattle.lang_base.specs.declared.program.Global.{Global}
use Rattle.lang_base.specs.declared.program.Named.{Named}
use Rattle.lang.specs.Form.{GlobalFits, FunctionFits, cells_of_all, cell_limit}
use Rattle.lang.specs.Shorts.{IsShortGlobal, IsShortNamed}

pub globals_short : (gs : List Global) → AllByRecursion GlobalFits gs → cells_of_all gs ≤ cell_limit → (k : ℕ) (d : Global) → k < length gs → IsShortGlobal (get_or gs k d)
globals_short [] fits few k d lt = absurd (omega arith)
globals_short (g ∷ gs) fits few zero d lt = record { words = omega (arith, fits.0.listed, few) }
globals_short (g ∷ gs) fits few (suc k) d lt = let few' : cells_of_all gs ≤ cell_limit = omega (arith, few) in globals_short gs fits.1 few' k d (omega arith)

pub functions_short : {F : Type 0} (Fits : F → Type 0) (before : List (Named F)) (fs : List (Named F)) → EachFits (FunctionFits Fits) before fs → (k : ℕ) (d : Named F) → k < length fs → IsShortNamed (get_or fs k d)
functions_short Fits before [] fits k d lt = absurd (omega arith)
functions_short Fits before (f ∷ fs) fits zero d lt = record { name = fits.0.short }
functions_short Fits before (f ∷ fs) fits (suc k) d lt = functions_short Fits (before ++ f ∷ []) fs fits.1 k d (omega arith)
