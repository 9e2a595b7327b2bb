-- Four offers that their passes accept.
use Rattle.linker.specs.ConstpropCheckRules.{IsPropagated}
use Rattle.linker.specs.Rules.{IsEliminated}
use Rattle.linker.specs.Allocated.{IsAllocated}
use Rattle.linker.specs.LinearizeCheckRules.{IsLaidOut}
use Rattle.chains.specs.declared.offering.Offers.{Offers}

-- each pass accepts its offer
pub record AreAccepted (offers : Offers) : Type 0 where
  pub constants : IsPropagated offers.constants.input offers.constants.output offers.constants.certificate
  pub expressions : IsEliminated offers.expressions.input offers.expressions.output offers.expressions.certificate
  pub allocation : IsAllocated offers.allocation.input offers.allocation.output offers.allocation.certificate
  pub order : IsLaidOut offers.order.input offers.order.output offers.order.certificate
