-- Why `condition_codes_lead_back` meets its contract.
use Rattle.ints.proofs.CondCodes.{cond_codes_lead_back}
use Rattle.ints.proofs.laws.condition_codes_lead_back.Goals as goal

pub returns : goal.returns
returns c = cond_codes_lead_back
