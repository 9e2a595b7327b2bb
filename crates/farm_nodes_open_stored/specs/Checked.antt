-- Offers that were checked again.
use Rattle.std.specs.Prelude.{◌≡◌, ◌⊎◌, ℕ, List, length, Option, All}
use Rattle.std.specs.Global.{Vec}
use Rattle.lang_base.specs.declared.language.Language as language
use Rattle.lang_base.specs.declared.pass.Pass as pass
use Rattle.rtl_language.specs.contracts.language.RtlLanguage.TheImpl as rtl_language
use Rattle.ltl.specs.contracts.language.LtlLanguage.TheImpl as ltl_language
use Rattle.linear_language.specs.contracts.language.LinearLanguage.TheImpl as linear_language
use Rattle.constprop_check.specs.contracts.pass.ConstPropPass.TheImpl as constants
use Rattle.cse_check.specs.contracts.pass.CsePass.TheImpl as expressions
use Rattle.farm_nodes_open_offers.specs.AllocPass.TheImpl as allocation
use Rattle.linearize_check.specs.contracts.pass.LinearizePass.TheImpl as order
use Rattle.acceptor_log_form.specs.declared.record.Record.{Record}
use Rattle.offers.specs.declared.parts.Parts.{Parts}
use Rattle.farm_nodes_open_offers.specs.Offers.{ConstantsOffer, ExpressionsOffer, AllocationOffer, OrderOffer}
use Rattle.farm_nodes_open_offers.specs.Passes.{Passes}
use Rattle.farm_nodes_open_offers.specs.Which.{Which}
use Rattle.farm_nodes_open_offers.specs.Which.TheVariants.{Constants, Expressions, Allocation, Order}
use Rattle.farm_nodes_open_offers.specs.Known.{AreKnown, IsAccepted, HasUnaccepted}
use Rattle.farm_nodes_open_offers.specs.Stored.{IsStored}
use Rattle.farm_nodes_open_offers.specs.declared.storing.Stored.{Stored}
use Rattle.farm_nodes_open_stored.specs.Nodes.{AreMade, AtNode, InFront}
use Rattle.farm_nodes_open_stored.specs.Read.{AllStored, AreStored}

-- of each pass there are as many rooms as offers
pub record AreAsMany (all : AllStored) : Type 0 where
  pub constants : length all.constants.rooms.items ≡ length all.constants.parts.items
  pub expressions : length all.expressions.rooms.items ≡ length all.expressions.parts.items
  pub allocation : length all.allocation.rooms.items ≡ length all.allocation.parts.items
  pub order : length all.order.rooms.items ≡ length all.order.parts.items

-- the passes accept all offers of a node
pub record AreAccepted (all : AllStored) : Type 0 where
  pub constants : All (IsAccepted (constants.ghosts).accepts) all.constants.parts.items
  pub expressions : All (IsAccepted (expressions.ghosts).accepts) all.expressions.parts.items
  pub allocation : All (IsAccepted (allocation.ghosts).accepts) all.allocation.parts.items
  pub order : All (IsAccepted (order.ghosts).accepts) all.order.parts.items

-- one of them its pass does not accept
abbrev pub HasRefused : AllStored → Type 0
HasRefused all =
    HasUnaccepted (constants.ghosts).accepts all.constants.parts.items
    ⊎ HasUnaccepted (expressions.ghosts).accepts all.expressions.parts.items
    ⊎ HasUnaccepted (allocation.ghosts).accepts all.allocation.parts.items
    ⊎ HasUnaccepted (order.ghosts).accepts all.order.parts.items

-- so it is of this node's
abbrev pub HasRefusedAt : List AllStored → ℕ → Type 0
HasRefusedAt stored node = AtNode (λ i all. HasRefused all) node stored

-- of each function the offer, if the node has made one, pass by pass
abbrev pub NodeOffers : Type 0
NodeOffers = Passes (Vec (Option ConstantsOffer)) (Vec (Option ExpressionsOffer)) (Vec (Option AllocationOffer)) (Vec (Option OrderOffer))

-- they are those of so many functions
pub record AreKnownOf (functions : ℕ) (all : AllStored) (offers : NodeOffers) : Type 0 where
  pub constants : AreKnown functions all.constants offers.constants.items
  pub expressions : AreKnown functions all.expressions offers.expressions.items
  pub allocation : AreKnown functions all.allocation offers.allocation.items
  pub order : AreKnown functions all.order offers.order.items

-- the offers of nodes, of each pass node by node
abbrev pub AllOffers : Type 0
AllOffers = Passes (Vec (Vec (Option ConstantsOffer))) (Vec (Vec (Option ExpressionsOffer)))
    (Vec (Vec (Option AllocationOffer))) (Vec (Vec (Option OrderOffer)))

-- the offers of one pass of a node are of so many functions, and the pass accepts each
abbrev pub IsChecked : {S I O C : Type 0} → (I → O → C → Type 0) → (S → Stored (Parts I O C)) → ℕ → ℕ → S
    → Vec (Option (Parts I O C)) → Type 0
IsChecked accepts of functions i all offers =
    AreKnown functions (of all) offers.items × All (IsAccepted accepts) (of all).parts.items

-- what there is of each pass
abbrev pub constants_of : AllStored → Stored ConstantsOffer
constants_of all = all.constants

abbrev pub expressions_of : AllStored → Stored ExpressionsOffer
expressions_of all = all.expressions

abbrev pub allocation_of : AllStored → Stored AllocationOffer
allocation_of all = all.allocation

abbrev pub order_of : AllStored → Stored OrderOffer
order_of all = all.order

-- so it is of the first nodes, so many, pass by pass
pub record AreChecked (functions : ℕ) (stored : List AllStored) (so_far : ℕ) (offers : AllOffers) : Type 0 where
  pub constants : AreMade (IsChecked (constants.ghosts).accepts constants_of functions) stored so_far offers.constants.items
  pub expressions : AreMade (IsChecked (expressions.ghosts).accepts expressions_of functions) stored so_far offers.expressions.items
  pub allocation : AreMade (IsChecked (allocation.ghosts).accepts allocation_of functions) stored so_far offers.allocation.items
  pub order : AreMade (IsChecked (order.ghosts).accepts order_of functions) stored so_far offers.order.items

-- of a pass from one language to another
module _ {P A B C I O : Type 0} (from : language.Ghosts A I) (to : language.Ghosts B O) (by : pass.Ghosts P A B C I O) (which : Which) where
  -- The offers of so many functions that stand among a node's records, each of which was checked again: the pass accepts it.
  pub record AreOffers (functions : ℕ) (rs : List Record) (offers : List (Option (Parts I O C))) : Type 0 where
    pub stored : Stored (Parts I O C)
    pub written : IsStored from to by which rs stored
    pub known : AreKnown functions stored offers
    pub accepted : All (IsAccepted by.accepts) stored.parts.items

  -- so it is of a journal, which is given as a pair of something and its records
  abbrev pub IsOffersPart : {J : Type 0} → ℕ → ℕ → J × Vec Record → Vec (Option (Parts I O C)) → Type 0
  IsOffersPart functions i j offers = AreOffers functions j.1.items offers.items

module _ {J : Type 0} where
  -- the offers of the nodes, each of which was checked again
  pub record AreNodesOffers (functions : ℕ) (journals : List (J × Vec Record)) (offers : AllOffers) : Type 0 where
    pub constants : AreMade (IsOffersPart rtl_language.ghosts rtl_language.ghosts constants.ghosts Constants functions)
        journals (length journals) offers.constants.items
    pub expressions : AreMade (IsOffersPart rtl_language.ghosts rtl_language.ghosts expressions.ghosts Expressions functions)
        journals (length journals) offers.expressions.items
    pub allocation : AreMade (IsOffersPart rtl_language.ghosts ltl_language.ghosts allocation.ghosts Allocation functions)
        journals (length journals) offers.allocation.items
    pub order : AreMade (IsOffersPart ltl_language.ghosts linear_language.ghosts order.ghosts Order functions)
        journals (length journals) offers.order.items

  -- the passes accept all offers among a node's records
  pub record WasAccepted (j : J × Vec Record) : Type 0 where
    pub stored : AllStored
    pub written : AreStored j.1.items stored
    pub accepted : AreAccepted stored

  -- one of them its pass does not accept
  pub record WasRefused (j : J × Vec Record) : Type 0 where
    pub stored : AllStored
    pub written : AreStored j.1.items stored
    pub refused : HasRefused stored

  -- so it is of this node's
  abbrev pub WasRefusedAt : List (J × Vec Record) → ℕ → Type 0
  WasRefusedAt journals node = AtNode (λ i j. WasRefused j) node journals

  -- they accept all offers among the records of the nodes in front of this one
  abbrev pub WereAccepted : List (J × Vec Record) → ℕ → Type 0
  WereAccepted journals node = InFront WasAccepted node journals
