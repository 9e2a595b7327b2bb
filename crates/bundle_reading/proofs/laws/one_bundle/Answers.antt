-- Why `one_bundle` meets its contract.
use Rattle.bundle_reading.proofs.OneBundle.{has_one_bundle}
use Rattle.bundle_reading.proofs.laws.one_bundle.Goals as goal

pub returns : goal.returns
returns c = has_one_bundle c.one_text.ensures c.one_text-2.ensures c.one_text-3.ensures c.one_text-4.ensures
