-- Why a node links no program: the first fault.
use Rattle.std.specs.Prelude.{◌≡◌, ◌≢◌, ℕ, zero, suc, List, [], ◌∷◌, Option, Some, None}
use Rattle.lang_base.specs.declared.program.Named.{Named}
use Rattle.lang_base.specs.declared.program.Program.{Program}
use Rattle.cminor_syntax.specs.Trees.{FunctionTree}
use Rattle.rtl_language.specs.Function.{FunctionData}
use Rattle.rtlgen_definition.specs.Gen.{gen}
use Rattle.linker.specs.RtlgenRefused.{IsFirstTooLarge}
use Rattle.linker.specs.Chains.{names_of}
use Rattle.linker.specs.Numbers.{number_of_link_error}
use Rattle.linker.specs.declared.errors.LinkError.{LinkError}
use Rattle.linker.specs.declared.errors.LinkError.TheVariants.{NoMemory, TooManyNodes, Missing, Unchained, Names}
use Rattle.farm_nodes_link.specs.declared.errors.LinkedError.{LinkedError}
use Rattle.farm_nodes_link.specs.declared.errors.LinkedError.TheVariants.{Undecided, Link}
use Rattle.farm_nodes_link.specs.Learned.{FourOffers, IsUndecided}
use Rattle.farm_nodes_link.specs.Offered.{GoOnFrom, ChainsFrom}

-- the number that a user is shown
abbrev pub number_of_linked_error : LinkedError → ℕ
number_of_linked_error Undecided = 520
number_of_linked_error (Link e) = number_of_link_error e

-- four offers are learned, and do not go on from the function
abbrev pub IsBroken : FunctionData → Option FourOffers → Type 0
IsBroken function None = ⊥
IsBroken function (Some offers) = GoOnFrom function offers → ⊥

-- this function's offers do not go on, and those of the functions before it do
abbrev pub IsFirstBroken : List (Named FunctionData) → List (Option FourOffers) → ℕ → Type 0
IsFirstBroken [] learned i = ⊥
IsFirstBroken (f ∷ functions) [] i = ⊥
IsFirstBroken (f ∷ functions) (o ∷ learned) zero = IsBroken f.function o
IsFirstBroken (f ∷ functions) (o ∷ learned) (suc i) = ChainsFrom f.function o × IsFirstBroken functions learned i

-- why offers that are learned under these names are not linked; none is ever missing
abbrev pub IsUnlinked : Program FunctionTree → List (List ℕ) → List (Option FourOffers) → LinkError → Type 0
IsUnlinked program names learned NoMemory = Unit {0}
IsUnlinked program names learned Names = names ≢ names_of program.functions
IsUnlinked program names learned (TooManyNodes i) = IsFirstTooLarge program.functions i
IsUnlinked program names learned (Missing i) = ⊥
IsUnlinked program names learned (Unchained i) = IsFirstBroken (gen program).functions learned i

-- a room is undecided, or the offers are not linked
abbrev pub IsRefused : Program FunctionTree → List (List ℕ) → List (Option FourOffers) → LinkedError → Type 0
IsRefused program names learned Undecided = IsUndecided learned
IsRefused program names learned (Link e) = IsUnlinked program names learned e

-- why learned offers are not linked to a program that stands translated: the first function whose offers do not go on
abbrev pub IsUnlinkedTo : Program FunctionData → List (Option FourOffers) → LinkError → Type 0
IsUnlinkedTo program learned NoMemory = Unit {0}
IsUnlinkedTo program learned Names = ⊥
IsUnlinkedTo program learned (TooManyNodes i) = ⊥
IsUnlinkedTo program learned (Missing i) = ⊥
IsUnlinkedTo program learned (Unchained i) = IsFirstBroken program.functions learned i

-- a room is undecided, or the offers are not linked
abbrev pub IsRefusedTo : Program FunctionData → List (Option FourOffers) → LinkedError → Type 0
IsRefusedTo program learned Undecided = IsUndecided learned
IsRefusedTo program learned (Link e) = IsUnlinkedTo program learned e

-- memory was refused
abbrev pub IsNoMemory : LinkedError → Type 0
IsNoMemory e = e ≡ Link NoMemory
