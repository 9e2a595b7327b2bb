-- Why `operator_codes_lead_back` meets its contract.
use Rattle.ints.proofs.Codes.{codes_lead_back}
use Rattle.ints.proofs.laws.operator_codes_lead_back.Goals as goal

pub returns : goal.returns
returns c = codes_lead_back
