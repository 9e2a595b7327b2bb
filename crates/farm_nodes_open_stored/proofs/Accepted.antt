-- One node more whose offers were checked, and those in front of it.
use Rattle.std.proofs.Common.{◌≡◌, ℕ, ◌+◌, List, [], ◌∷◌, ◌++◌, All, Some}
use Rattle.std.specs.Prelude.{slice_get}
use Rattle.constprop_check.specs.contracts.pass.ConstPropPass.TheImpl as constants
use Rattle.cse_check.specs.contracts.pass.CsePass.TheImpl as expressions
use Rattle.farm_nodes_open_offers.specs.AllocPass.TheImpl as allocation
use Rattle.linearize_check.specs.contracts.pass.LinearizePass.TheImpl as order
use Rattle.farm_nodes_open_offers.specs.Known.{IsAccepted}
use Rattle.farm_nodes_open_stored.specs.Nodes.{InFront}
use Rattle.farm_nodes_open_stored.specs.Read.{AllStored}
use Rattle.farm_nodes_open_stored.specs.Checked.{AllOffers, NodeOffers, AreAccepted, AreChecked, AreKnownOf, IsChecked, constants_of, expressions_of, allocation_of, order_of}
use Rattle.farm_nodes_open_stored.proofs.Nodes.{front_made, made_more, none_made}

module _ (functions : ℕ) (stored : List AllStored) where
  pub none_checked : (found : AllOffers) → found.constants.items ≡ [] → found.expressions.items ≡ [] → found.allocation.items ≡ [] → found.order.items ≡ [] → AreChecked functions stored 0 found
  none_checked found first second third fourth = record {
    constants = none_made (IsChecked (constants.ghosts).accepts constants_of functions) stored found.constants.items first;
    expressions = none_made (IsChecked (expressions.ghosts).accepts expressions_of functions) stored found.expressions.items second;
    allocation = none_made (IsChecked (allocation.ghosts).accepts allocation_of functions) stored found.allocation.items third;
    order = none_made (IsChecked (order.ghosts).accepts order_of functions) stored found.order.items fourth;
  }

  module _ (node : ℕ) (found : AllOffers) (are : AreChecked functions stored node found) where
    pub accepted_in_front : InFront AreAccepted node stored
    accepted_in_front i x low got = record {
      constants = front_made (IsChecked (constants.ghosts).accepts constants_of functions) stored found.constants.items node are.constants (λ all. All (IsAccepted (constants.ghosts).accepts) (constants_of all).parts.items) (λ i x y is. is.1) i x low got;
      expressions = front_made (IsChecked (expressions.ghosts).accepts expressions_of functions) stored found.expressions.items node are.expressions (λ all. All (IsAccepted (expressions.ghosts).accepts) (expressions_of all).parts.items) (λ i x y is. is.1) i x low got;
      allocation = front_made (IsChecked (allocation.ghosts).accepts allocation_of functions) stored found.allocation.items node are.allocation (λ all. All (IsAccepted (allocation.ghosts).accepts) (allocation_of all).parts.items) (λ i x y is. is.1) i x low got;
      order = front_made (IsChecked (order.ghosts).accepts order_of functions) stored found.order.items node are.order (λ all. All (IsAccepted (order.ghosts).accepts) (order_of all).parts.items) (λ i x y is. is.1) i x low got;
    }

    pub checked_more : (more : AllOffers) (one : AllStored) (offers : NodeOffers) → slice_get stored node ≡ Some one → AreKnownOf functions one offers → AreAccepted one
        → more.constants.items ≡ found.constants.items ++ offers.constants ∷ [] → more.expressions.items ≡ found.expressions.items ++ offers.expressions ∷ []
        → more.allocation.items ≡ found.allocation.items ++ offers.allocation ∷ [] → more.order.items ≡ found.order.items ++ offers.order ∷ [] → AreChecked functions stored (node + 1) more
    checked_more more one offers got known accepted first second third fourth = record {
      constants = made_more (IsChecked (constants.ghosts).accepts constants_of functions) stored node found.constants.items more.constants.items one offers.constants are.constants got (known.constants, accepted.constants) first;
      expressions = made_more (IsChecked (expressions.ghosts).accepts expressions_of functions) stored node found.expressions.items more.expressions.items one offers.expressions are.expressions got (known.expressions, accepted.expressions) second;
      allocation = made_more (IsChecked (allocation.ghosts).accepts allocation_of functions) stored node found.allocation.items more.allocation.items one offers.allocation are.allocation got (known.allocation, accepted.allocation) third;
      order = made_more (IsChecked (order.ghosts).accepts order_of functions) stored node found.order.items more.order.items one offers.order are.order got (known.order, accepted.order) fourth;
    }
