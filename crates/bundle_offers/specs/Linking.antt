-- A bundle whose offers link a program.
use Rattle.std.specs.Prelude.{◌≡◌, ℕ, List, All}
use Rattle.lang_base.specs.declared.program.Program.{Program}
use Rattle.rtl_language.specs.Function as rtl
use Rattle.linear_language.specs.Function as linear
use Rattle.bundle_reading.specs.Offers.{Offers}
use Rattle.bundle_reading.specs.Accepted.{AreAccepted}
use Rattle.bundle_reading.specs.Offered.{AllGoOn, linked_offers}
use Rattle.bundle_reading.specs.Texts.{IsBundleOf}

-- The bytes are the bundle of this digest and of the offers of all functions: each is accepted by its pass, each goes on from the
-- one before it, the first from the function, and the program is what they link.
pub record BundleLinks (bytes digest : List ℕ) (begun : Program rtl.FunctionData) (program : Program linear.FunctionData) : Type 0 where
  pub offers : List Offers
  pub bundled : IsBundleOf bytes digest offers
  pub chained : AllGoOn begun.functions offers
  pub passed : All AreAccepted offers
  pub linked : program ≡ linked_offers begun offers
