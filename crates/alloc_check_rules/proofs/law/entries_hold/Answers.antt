-- Why `entries_hold` meets its contract.
use Rattle.alloc_check_rules.proofs.Entries.{entry_holds}
use Rattle.alloc_check_rules.proofs.law.entries_hold.Goals as goal

pub returns : goal.returns
returns c = entry_holds
