-- Why a program of Cminor is not linked: its names first, then its translation to RTL, then the chains.
use Rattle.std.specs.Prelude.{◌≡◌, ◌≢◌, All, List}
use Rattle.lang_base.specs.declared.program.Program.{Program}
use Rattle.cminor_syntax.specs.Trees.{FunctionTree}
use Rattle.rtlgen_definition.specs.Gen.{gen}
use Rattle.offers.specs.declared.parts.Parts.{Parts}
use Rattle.rtl_language.specs.Function.{FunctionData}
use Rattle.rtlgen.specs.Refused.{HasFewNodes, IsFirstTooLarge}
use Rattle.rtlgen.specs.declared.errors.GenError.{GenError}
use Rattle.rtlgen.specs.declared.errors.GenError.TheVariants as gen_error
use Rattle.linker.specs.declared.chain.Named.{Named}
use Rattle.linker.specs.Chains.{names_beside, names_of, AllChained, IsMissing, IsUnchained}
use Rattle.linker.specs.declared.errors.LinkError.{LinkError}
use Rattle.linker.specs.declared.errors.LinkError.TheVariants.{NoMemory, TooManyNodes, Missing, Unchained, Names}

abbrev pub IsRefused : {A2 A3 A4 A5 C1 C2 C3 C4 : Type 0} → Program FunctionTree → List (Named (Parts FunctionData A2 C1) (Parts A2 A3 C2) (Parts A3 A4 C3) (Parts A4 A5 C4)) → LinkError → Type 0
IsRefused program named NoMemory = Unit {0}
IsRefused program named Names = names_beside named ≢ names_of program.functions
IsRefused program named (TooManyNodes i) = IsFirstTooLarge program.functions i
IsRefused program named (Missing i) = IsMissing (gen program).functions named i
IsRefused program named (Unchained i) = IsUnchained (gen program).functions named i

-- the first function that needs too many nodes is told, unless memory was refused; nothing else is
abbrev pub HasNoTranslation : Program FunctionTree → LinkError → Type 0
HasNoTranslation program NoMemory = Unit {0}
HasNoTranslation program Names = ⊥
HasNoTranslation program (TooManyNodes i) = IsFirstTooLarge program.functions i
HasNoTranslation program (Missing i) = ⊥
HasNoTranslation program (Unchained i) = ⊥

-- what is told of a program that is not translated
abbrev pub refusal_to_translate : GenError → LinkError
refusal_to_translate gen_error.NoMemory = NoMemory
refusal_to_translate (gen_error.TooManyNodes function) = TooManyNodes function

-- the names beside the offers are others, or not as many
abbrev pub HasOtherNames : {A O1 O2 O3 O4 : Type 0} → Program A → List (Named O1 O2 O3 O4) → Type 0
HasOtherNames program named = names_beside named ≢ names_of program.functions

-- unless memory was refused, the names are told
abbrev pub IsNamesOrMemory : LinkError → Type 0
IsNamesOrMemory e = e ≢ NoMemory → e ≡ Names

-- so it is where the names are the program's, no function needs too many nodes, and all chains are whole
abbrev pub WhereAllLinks : {A2 A3 A4 A5 C1 C2 C3 C4 : Type 0} → Program FunctionTree
    → List (Named (Parts FunctionData A2 C1) (Parts A2 A3 C2) (Parts A3 A4 C3) (Parts A4 A5 C4)) → Type 0 → Type 0
WhereAllLinks program named P = names_beside named ≡ names_of program.functions → All HasFewNodes program.functions → AllChained (gen program).functions named → P
