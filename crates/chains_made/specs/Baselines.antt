-- Four offers that are the baselines of their passes: the function itself with nothing known, twice; each register in a slot
-- of its own; and the nodes that are reached, the entry first and the others rising.
use Rattle.constprop_check.specs.Baseline as constants
use Rattle.cse_check.specs.Baseline as expressions
use Rattle.alloc_check.specs.Baseline as allocation
use Rattle.linearize_check.specs.Baseline as order
use Rattle.chains.specs.declared.offering.Offers.{Offers}

pub record AreBaselines (offers : Offers) : Type 0 where
  pub constants : constants.IsBaseline offers.constants.input offers.constants.output offers.constants.certificate
  pub expressions : expressions.IsBaseline offers.expressions.input offers.expressions.output offers.expressions.certificate
  pub allocation : allocation.IsBaseline offers.allocation.input offers.allocation.output offers.allocation.certificate
  pub order : order.IsBaseline offers.order.input offers.order.output offers.order.certificate
