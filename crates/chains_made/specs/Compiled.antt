-- What a program is compiled to.
use Rattle.std.specs.Prelude.{◌≡◌, ℕ, List, All}
use Rattle.lang_base.specs.declared.program.Program.{Program}
use Rattle.rtl_language.specs.Function as rtl
use Rattle.linear_language.specs.Function as linear
use Rattle.chains.specs.declared.offering.Offers.{Offers}
use Rattle.chains.specs.Accepted.{AreAccepted}
use Rattle.chains_made.specs.Baselines.{AreBaselines}
use Rattle.chains_made.specs.Counted.{AreCounted}
use Rattle.chains.specs.Offered.{AllGoOn, linked_offers}

-- the program is that of offers which their passes accept and which chain, the first of each function's from the function;
-- so many of them are counted as the optimisers'
pub record IsCompiled (before after : ℕ) (program : Program rtl.FunctionData) (made : Program linear.FunctionData) : Type 0 where
  pub offers : List Offers
  pub chained : AllGoOn program.functions offers
  pub accepted : All AreAccepted offers
  pub is : made ≡ linked_offers program offers
  pub counted : AreCounted before after offers

-- the same, and all of them are the baselines
pub record IsBaselineProgram (program : Program rtl.FunctionData) (made : Program linear.FunctionData) : Type 0 where
  pub offers : List Offers
  pub chained : AllGoOn program.functions offers
  pub baselines : All AreBaselines offers
  pub is : made ≡ linked_offers program offers
