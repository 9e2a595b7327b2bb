-- What the offers of the four passes are, and the texts of those that their passes accept.
use Rattle.std.specs.Prelude.{ℕ, List}
use Rattle.farm_nodes_turn_offer.specs.Parts.{Parts}
use Rattle.rtl_language.specs.Function as rtl
use Rattle.rtl_language.specs.contracts.language.RtlLanguage.TheImpl as rtl_language
use Rattle.ltl.specs.Function as ltl
use Rattle.ltl.specs.contracts.language.LtlLanguage.TheImpl as ltl_language
use Rattle.rooms_numbered.specs.LinearLanguageFunction as linear
use Rattle.rooms_numbered.specs.LinearLanguage.TheImpl as linear_language
use Rattle.cse_check.specs.NodeRow.{NodeRow}
use Rattle.cse_check.specs.CseCheckRulesFact.{Fact}
use Rattle.rooms_numbered.specs.ConstPropPass.TheImpl as constants
use Rattle.cse_check.specs.Equation as expressions_held
use Rattle.cse_check.specs.contracts.pass.CsePass.TheImpl as expressions
use Rattle.rooms_numbered.specs.Equation as places_held
use Rattle.rooms_numbered.specs.AllocPass.TheImpl as allocation
use Rattle.rooms_numbered.specs.LinearizePass.TheImpl as order
use Rattle.farm_nodes_turn_offer.specs.Pending.{IsOfferText}

abbrev pub ConstantsOffer : Type 0
ConstantsOffer = Parts rtl.FunctionData rtl.FunctionData (List (NodeRow Fact))

abbrev pub ExpressionsOffer : Type 0
ExpressionsOffer = Parts rtl.FunctionData rtl.FunctionData (List (NodeRow expressions_held.Equation))

abbrev pub AllocationOffer : Type 0
AllocationOffer = Parts rtl.FunctionData ltl.FunctionData (List (NodeRow places_held.Equation))

abbrev pub OrderOffer : Type 0
OrderOffer = Parts ltl.FunctionData linear.FunctionData (List ℕ)

abbrev pub IsConstants : List ℕ → ConstantsOffer → Type 0
IsConstants = IsOfferText rtl_language.ghosts rtl_language.ghosts constants.ghosts

abbrev pub IsExpressions : List ℕ → ExpressionsOffer → Type 0
IsExpressions = IsOfferText rtl_language.ghosts rtl_language.ghosts expressions.ghosts

abbrev pub IsAllocation : List ℕ → AllocationOffer → Type 0
IsAllocation = IsOfferText rtl_language.ghosts ltl_language.ghosts allocation.ghosts

abbrev pub IsOrder : List ℕ → OrderOffer → Type 0
IsOrder = IsOfferText ltl_language.ghosts linear_language.ghosts order.ghosts
