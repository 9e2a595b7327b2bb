-- Why `updates_as_assigned` meets its contract.
use Rattle.c_checker_rules.proofs.Changes.{updates_as_assigned}
use Rattle.c_checker_rules.proofs.law.updates_as_assigned.Goals as goal

pub returns : goal.returns
returns c = updates_as_assigned
