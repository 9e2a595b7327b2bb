-- What the texts of the four passes' offers are, and those of the offers in a node's own cells.
use Rattle.std.specs.Prelude.{ℕ, List}
use Rattle.farm_nodes_turn_offer.specs.Told.{IsOwnText}
use Rattle.farm_nodes_turn_passes.specs.Fours.{Four}
use Rattle.farm_nodes_turn_passes.specs.Offers.{ConstantsOffer, ExpressionsOffer, AllocationOffer, OrderOffer}
use Rattle.farm_nodes_turn_passes.specs.Offers.{IsConstants, IsExpressions, IsAllocation, IsOrder}
use Rattle.farm_nodes_turn_passes.specs.declared.which.Which.{Which}
use Rattle.farm_nodes_turn_passes.specs.declared.which.Which.TheVariants.{Constants, Expressions, Allocation, Order}

-- what a text of an offer is, by pass
pub record Texts (X1 X2 X3 X4 : Type 0) : Type 1 where
  pub constants : List ℕ → X1 → Type 0
  pub expressions : List ℕ → X2 → Type 0
  pub allocation : List ℕ → X3 → Type 0
  pub order : List ℕ → X4 → Type 0

abbrev pub texts_by : {X1 X2 X3 X4 : Type 0} → (List ℕ → X1 → Type 0) → (List ℕ → X2 → Type 0) → (List ℕ → X3 → Type 0)
    → (List ℕ → X4 → Type 0) → Texts X1 X2 X3 X4
texts_by IsText1 IsText2 IsText3 IsText4 = record { constants = IsText1; expressions = IsText2; allocation = IsText3; order = IsText4 }

-- those of the passes as they are
abbrev pub pass_texts : Texts ConstantsOffer ExpressionsOffer AllocationOffer OrderOffer
pass_texts = texts_by IsConstants IsExpressions IsAllocation IsOrder

-- these bytes are the text of the offer that stands in the node's own cell in the room of the pass
abbrev pub IsOwnTextIn : {X1 X2 X3 X4 : Type 0} → Texts X1 X2 X3 X4 → Which → Four X1 X2 X3 X4 → List ℕ → Type 0
IsOwnTextIn texts Constants s = IsOwnText texts.constants s.constants
IsOwnTextIn texts Expressions s = IsOwnText texts.expressions s.expressions
IsOwnTextIn texts Allocation s = IsOwnText texts.allocation s.allocation
IsOwnTextIn texts Order s = IsOwnText texts.order s.order
