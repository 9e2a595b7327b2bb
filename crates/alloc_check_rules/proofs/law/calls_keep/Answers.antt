-- Why `calls_keep` meets its contract.
use Rattle.alloc_check_rules.proofs.Changes.{over_call_holds}
use Rattle.alloc_check_rules.proofs.law.calls_keep.Goals as goal

pub returns : goal.returns
returns c = over_call_holds
