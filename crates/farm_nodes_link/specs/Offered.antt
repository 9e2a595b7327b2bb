-- The program that learned offers link.
use Rattle.std.specs.Prelude.{◌≡◌, ℕ, List, [], ◌∷◌, ◌++◌, Option, Some, None}
use Rattle.lang_base.specs.declared.program.Named as code
use Rattle.lang_base.specs.declared.program.Program.{Program}
use Rattle.rtl_language.specs.Function as rtl
use Rattle.linear_language.specs.Function as linear
use Rattle.farm_nodes_link.specs.Learned.{FourOffers}

-- each offer goes on from the output of the one before it, and the first from the function
pub record GoOnFrom (function : rtl.FunctionData) (offers : FourOffers) : Type 0 where
  pub constants : offers.constants.input ≡ function
  pub expressions : offers.expressions.input ≡ offers.constants.output
  pub allocation : offers.allocation.input ≡ offers.expressions.output
  pub order : offers.order.input ≡ offers.allocation.output

-- there are four offers, and they go on from the function
abbrev pub ChainsFrom : rtl.FunctionData → Option FourOffers → Type 0
ChainsFrom function None = ⊥
ChainsFrom function (Some offers) = GoOnFrom function offers

-- function by function, and no more of them
abbrev pub AllGoOn : List (code.Named rtl.FunctionData) → List (Option FourOffers) → Type 0
AllGoOn [] [] = Unit {0}
AllGoOn [] (o ∷ learned) = ⊥
AllGoOn (f ∷ functions) [] = ⊥
AllGoOn (f ∷ functions) (o ∷ learned) = ChainsFrom f.function o × AllGoOn functions learned

-- the code of a function: the output of the fourth offer, under the function's name
abbrev pub end_of : List ℕ → Option FourOffers → List (code.Named linear.FunctionData)
end_of name None = []
end_of name (Some offers) = record { name = name; function = offers.order.output } ∷ []

abbrev pub ends_of : List (code.Named rtl.FunctionData) → List (Option FourOffers) → List (code.Named linear.FunctionData)
ends_of [] learned = []
ends_of (f ∷ functions) [] = []
ends_of (f ∷ functions) (o ∷ learned) = end_of f.name o ++ ends_of functions learned

-- the program that they link: the globals and the names of the first program, and each function's code
abbrev pub linked_offers : Program rtl.FunctionData → List (Option FourOffers) → Program linear.FunctionData
linked_offers program learned = record { globals = program.globals; functions = ends_of program.functions learned }
