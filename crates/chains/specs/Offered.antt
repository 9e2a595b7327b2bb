-- Offers of a program's functions, and the program that they link.
use Rattle.std.specs.Prelude.{◌≡◌, List, [], ◌∷◌}
use Rattle.lang_base.specs.declared.program.Named.{Named}
use Rattle.lang_base.specs.declared.program.Program.{Program}
use Rattle.rtl_language.specs.Function as rtl
use Rattle.linear_language.specs.Function as linear
use Rattle.chains.specs.declared.offering.Offers.{Offers}

-- each offer goes on from the output of the one before it, and the first from the function
pub record GoOnFrom (function : rtl.FunctionData) (offers : Offers) : Type 0 where
  pub constants : offers.constants.input ≡ function
  pub expressions : offers.expressions.input ≡ offers.constants.output
  pub allocation : offers.allocation.input ≡ offers.expressions.output
  pub order : offers.order.input ≡ offers.allocation.output

-- function by function, and no more offers than functions
abbrev pub AllGoOn : List (Named rtl.FunctionData) → List Offers → Type 0
AllGoOn [] [] = Unit {0}
AllGoOn [] (o ∷ offers) = ⊥
AllGoOn (f ∷ functions) [] = ⊥
AllGoOn (f ∷ functions) (o ∷ offers) = GoOnFrom f.function o × AllGoOn functions offers

-- the output of its last offer, under each function's name
abbrev pub ends_of : List (Named rtl.FunctionData) → List Offers → List (Named linear.FunctionData)
ends_of [] offers = []
ends_of (f ∷ functions) [] = []
ends_of (f ∷ functions) (o ∷ offers) = record { name = f.name; function = o.order.output } ∷ ends_of functions offers

-- the program that the offers link: its globals and its names are those of the first program
abbrev pub linked_offers : Program rtl.FunctionData → List Offers → Program linear.FunctionData
linked_offers program offers = record { globals = program.globals; functions = ends_of program.functions offers }
