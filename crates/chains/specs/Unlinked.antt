-- Why offers are not linked.
use Rattle.std.specs.Prelude.{◌≢◌, ℕ, zero, suc, List, [], ◌∷◌, length}
use Rattle.lang_base.specs.declared.program.Named.{Named}
use Rattle.rtl_language.specs.Function.{FunctionData}
use Rattle.linker.specs.declared.errors.LinkError.{LinkError}
use Rattle.linker.specs.declared.errors.LinkError.TheVariants as link
use Rattle.chains.specs.declared.offering.Offers.{Offers}
use Rattle.chains.specs.Offered.{GoOnFrom}

-- this function's offers do not chain, and those of the functions before it do
abbrev pub IsFirstBroken : List (Named FunctionData) → List Offers → ℕ → Type 0
IsFirstBroken [] offers i = ⊥
IsFirstBroken (f ∷ functions) [] i = ⊥
IsFirstBroken (f ∷ functions) (o ∷ offers) zero = GoOnFrom f.function o → ⊥
IsFirstBroken (f ∷ functions) (o ∷ offers) (suc i) = GoOnFrom f.function o × IsFirstBroken functions offers i

-- why offers are not linked
abbrev pub IsUnlinked : List (Named FunctionData) → List Offers → LinkError → Type 0
IsUnlinked functions offers link.NoMemory = Unit {0}
IsUnlinked functions offers link.Names = length functions ≢ length offers
IsUnlinked functions offers (link.Unchained i) = IsFirstBroken functions offers i
IsUnlinked functions offers (link.Missing i) = ⊥
IsUnlinked functions offers (link.TooManyNodes i) = ⊥
