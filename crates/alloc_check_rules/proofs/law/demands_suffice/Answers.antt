-- Why `demands_suffice` meets its contract.
use Rattle.alloc_check_rules.proofs.Changes.{through_holds}
use Rattle.alloc_check_rules.proofs.law.demands_suffice.Goals as goal

pub returns : goal.returns
returns c = through_holds
