-- What was read of a node is as many rooms as offers, and what was checked of it are offers among its records.
use Rattle.std.proofs.Common.{◌≡◌, ℕ, List, length, Option, sym, ap, ◌∙◌}
use Rattle.std.specs.Global.{Vec}
use Rattle.std.proofs.lemmas.List.{length-map}
use Rattle.lang_base.specs.declared.language.Language as language
use Rattle.lang_base.specs.declared.pass.Pass as pass
use Rattle.rtl_language.specs.contracts.language.RtlLanguage.TheImpl as rtl_language
use Rattle.ltl.specs.contracts.language.LtlLanguage.TheImpl as ltl_language
use Rattle.linear_language.specs.contracts.language.LinearLanguage.TheImpl as linear_language
use Rattle.constprop_check.specs.contracts.pass.ConstPropPass.TheImpl as constants
use Rattle.cse_check.specs.contracts.pass.CsePass.TheImpl as expressions
use Rattle.farm_nodes_open_offers.specs.AllocPass.TheImpl as allocation
use Rattle.linearize_check.specs.contracts.pass.LinearizePass.TheImpl as order
use Rattle.acceptor_log_form.specs.declared.record.Record.{Record}
use Rattle.offers.specs.declared.parts.Parts.{Parts}
use Rattle.offers.specs.Text.{text_of}
use Rattle.farm_nodes_open_offers.specs.Which.{Which}
use Rattle.farm_nodes_open_offers.specs.Which.TheVariants.{Constants, Expressions, Allocation, Order}
use Rattle.farm_nodes_open_offers.specs.Stored.{IsStored}
use Rattle.farm_nodes_open_offers.specs.Written.{all_written}
use Rattle.farm_nodes_open_offers.specs.declared.storing.Stored.{Stored}
use Rattle.farm_nodes_open_stored.specs.Nodes.{AreMade}
use Rattle.farm_nodes_open_stored.specs.Read.{AllStored, AreStored, IsStoredPart}
use Rattle.farm_nodes_open_stored.specs.Checked.{AllOffers, AreAsMany, AreChecked, AreNodesOffers, IsChecked, IsOffersPart, constants_of, expressions_of, allocation_of, order_of}
use Rattle.farm_nodes_open_stored.proofs.Nodes.{composed}

module _ {P A B C I O : Type 0} (from : language.Ghosts A I) (to : language.Ghosts B O) (by : pass.Ghosts P A B C I O) (which : Which) where
  -- as many rooms as offers
  as_many : (rs : List Record) (stored : Stored (Parts I O C)) → IsStored from to by which rs stored → length stored.rooms.items ≡ length stored.parts.items
  as_many rs stored is =
      ap length is.rooms ∙ length-map (all_written which rs) (λ (it : ℕ × List ℕ). it.0)
      ∙ sym (length-map (all_written which rs) (λ (it : ℕ × List ℕ). it.1)) ∙ sym (ap length is.texts)
      ∙ length-map stored.parts.items (text_of from to by)

  -- what was read and checked are offers of the pass among the records
  module _ {J : Type 0} (functions : ℕ) (of : AllStored → Stored (Parts I O C)) (written : (rs : List Record) (all : AllStored) → AreStored rs all → IsStored from to by which rs (of all))
      (journals : List (J × Vec Record)) (stored : List AllStored) (are : AreMade IsStoredPart journals (length journals) stored)
      (offers : List (Vec (Option (Parts I O C)))) (checked : AreMade (IsChecked by.accepts of functions) stored (length stored) offers) where
    in_pass : AreMade (IsOffersPart from to by which functions) journals (length journals) offers
    in_pass =
        composed IsStoredPart journals stored are (IsChecked by.accepts of functions) (IsOffersPart from to by which functions) offers checked
        (λ i x y z is one. record { stored = of y; written = written x.1.items y is; known = one.0; accepted = one.1 })

pub all_many : (rs : List Record) (all : AllStored) → AreStored rs all → AreAsMany all
all_many rs all is = record {
  constants = as_many rtl_language.ghosts rtl_language.ghosts constants.ghosts Constants rs all.constants is.constants;
  expressions = as_many rtl_language.ghosts rtl_language.ghosts expressions.ghosts Expressions rs all.expressions is.expressions;
  allocation = as_many rtl_language.ghosts ltl_language.ghosts allocation.ghosts Allocation rs all.allocation is.allocation;
  order = as_many ltl_language.ghosts linear_language.ghosts order.ghosts Order rs all.order is.order;
}

pub offers_of : {J : Type 0} (functions : ℕ) (journals : List (J × Vec Record)) (stored : List AllStored) (offers : AllOffers) → AreMade IsStoredPart journals (length journals) stored
    → AreChecked functions stored (length stored) offers → AreNodesOffers functions journals offers
offers_of functions journals stored offers are checked = record {
  constants = in_pass rtl_language.ghosts rtl_language.ghosts constants.ghosts Constants functions constants_of (λ rs all is. is.constants) journals stored are offers.constants.items checked.constants;
  expressions = in_pass rtl_language.ghosts rtl_language.ghosts expressions.ghosts Expressions functions expressions_of (λ rs all is. is.expressions) journals stored are offers.expressions.items checked.expressions;
  allocation = in_pass rtl_language.ghosts ltl_language.ghosts allocation.ghosts Allocation functions allocation_of (λ rs all is. is.allocation) journals stored are offers.allocation.items checked.allocation;
  order = in_pass ltl_language.ghosts linear_language.ghosts order.ghosts Order functions order_of (λ rs all is. is.order) journals stored are offers.order.items checked.order;
}
