-- What is kept of the functions of four offers: each part is in its range, so it has a spelling.
use Rattle.rtl_language.specs.Function as rtl
use Rattle.ltl.specs.Function as ltl
use Rattle.linear_language.specs.Function as linear
use Rattle.bundle_reading.specs.Offers.{Offers}

pub record AreInRange (offers : Offers) : Type 0 where
  pub first : rtl.IsFunction offers.constants.input
  pub second : rtl.IsFunction offers.constants.output
  pub third : rtl.IsFunction offers.expressions.output
  pub fourth : ltl.IsFunction offers.allocation.output
  pub last : linear.IsFunction offers.order.output
