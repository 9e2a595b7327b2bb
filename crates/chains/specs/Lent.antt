-- Names with the offers lent beside them.
use Rattle.std.specs.Prelude.{◌≡◌, ℕ, List, [], ◌∷◌, Option, Some, None}
use Rattle.lang_base.specs.declared.program.Named as code
use Rattle.offers.specs.declared.parts.Parts.{Parts}
use Rattle.rtl_language.specs.Function as rtl
use Rattle.ltl.specs.Function as ltl
use Rattle.linear_language.specs.Function as linear
use Rattle.linker.specs.NodeRow.{NodeRow}
use Rattle.linker.specs.Fact.{Fact}
use Rattle.linker.specs.Equation as cse
use Rattle.linker.specs.AllocCheckRulesEquation as alloc
use Rattle.linker.specs.declared.chain.Chain as linking_chain
use Rattle.linker.specs.declared.chain.Named as linking_named
use Rattle.chains.specs.declared.offering.Offers.{Offers}

-- the parts of an offer of each pass
abbrev pub OfConstants : Type 0
OfConstants = Parts rtl.FunctionData rtl.FunctionData (List (NodeRow Fact))

abbrev pub OfExpressions : Type 0
OfExpressions = Parts rtl.FunctionData rtl.FunctionData (List (NodeRow cse.Equation))

abbrev pub OfAllocation : Type 0
OfAllocation = Parts rtl.FunctionData ltl.FunctionData (List (NodeRow alloc.Equation))

abbrev pub OfOrder : Type 0
OfOrder = Parts ltl.FunctionData linear.FunctionData (List ℕ)

abbrev pub Chain : Type 0
Chain = linking_chain.Chain OfConstants OfExpressions OfAllocation OfOrder

abbrev pub Named : Type 0
Named = linking_named.Named OfConstants OfExpressions OfAllocation OfOrder

-- these four offers are lent
pub record IsLent (offers : Offers) (chain : Chain) : Type 0 where
  pub first : chain.first.now ≡ offers.constants
  pub second : chain.second.now ≡ offers.expressions
  pub third : chain.third.now ≡ offers.allocation
  pub fourth : chain.fourth.now ≡ offers.order

abbrev pub LendsTo : Offers → Option Chain → Type 0
LendsTo offers None = ⊥
LendsTo offers (Some chain) = IsLent offers chain

-- the function's name, with its offers
pub record IsBeside (f : code.Named rtl.FunctionData) (offers : Offers) (named : Named) : Type 0 where
  pub name : named.name.now ≡ f.name
  pub lends : LendsTo offers named.chain

-- function by function
abbrev pub AreBeside : List (code.Named rtl.FunctionData) → List Offers → List Named → Type 0
AreBeside [] [] [] = Unit {0}
AreBeside [] [] (n ∷ named) = ⊥
AreBeside [] (o ∷ offers) named = ⊥
AreBeside (f ∷ functions) [] named = ⊥
AreBeside (f ∷ functions) (o ∷ offers) [] = ⊥
AreBeside (f ∷ functions) (o ∷ offers) (n ∷ named) = IsBeside f o n × AreBeside functions offers named
