-- Why `one_offer_shown` meets its contract.
use Rattle.text_offers.proofs.laws.one_offer_shown.Goals as goal
use Rattle.text_offers.proofs.Files.{one_offer}

pub returns : goal.returns
returns c = one_offer
