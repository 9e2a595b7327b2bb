-- A program that a text spells is in range as the proof asks.
use Rattle.std.proofs.Common.{◌≡◌, ℕ, zero, suc, List, [], ◌∷◌, ◌++◌, Some, subst}
use Rattle.std.specs.Prelude.{slice_get}
use Rattle.std.specs.List.{AllByRecursion}
use Rattle.lang.specs.Form.{GlobalFits, FunctionFits}
use Rattle.lang_base.specs.Texts.{EachFits}
use Rattle.lang_base.specs.declared.program.Global.{Global}
use Rattle.lang_base.specs.declared.program.Named.{Named}
use Rattle.lang_base.specs.declared.program.Program.{Program}
use Rattle.linear_language.specs.Function.{FunctionData, IsFunction}
use Rattle.native_lowering_definition.specs.Lowering.{lowered}
use Rattle.native_lowering_keeping.proofs.Beginning.{GlobalInRange}
use Rattle.native_lowering_keeping.proofs.Keeping.{keeps}
use Rattle.native_lowering_laws.specs.Laws.{KeepsMeaning, StaysSafe}
use Rattle.native_lowering_safe.proofs.Safe.{safe}

functions_fit : (before fs : List (Named FunctionData)) → EachFits (FunctionFits IsFunction) before fs → (k : ℕ) (f : Named FunctionData) → slice_get fs k ≡ Some f → IsFunction f.function
functions_fit before [] fits k f there = cc
functions_fit before (g ∷ fs) fits zero f there =
    let same : g ≡ f = cc in subst (λ (x : Named FunctionData). IsFunction x.function) same fits.0.function
functions_fit before (g ∷ fs) fits (suc k) f there = functions_fit (before ++ g ∷ []) fs fits.1 k f there

globals_fit : (gs : List Global) → AllByRecursion GlobalFits gs → AllByRecursion GlobalInRange gs
globals_fit [] fits = tt
globals_fit (g ∷ gs) fits = (record { words = fits.0.words }, globals_fit gs fits.1)

pub keeps_meaning : (p : Program FunctionData) → KeepsMeaning p (lowered p)
keeps_meaning p = λ fits junk. keeps p (functions_fit [] p.functions fits.functions) (globals_fit p.globals fits.globals) junk

pub stays_safe : (p : Program FunctionData) → StaysSafe p (lowered p)
stays_safe p = λ fits. safe p (functions_fit [] p.functions fits.functions) (globals_fit p.globals fits.globals)
