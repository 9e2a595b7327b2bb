-- Why `accepted_has_names` meets its contract.
use Rattle.cminor_program_ranges.proofs.Trees.{accepted_named}
use Rattle.cminor_program_ranges.proofs.accepted.accepted_has_names.Goals as goal

pub returns : goal.returns
returns c = accepted_named
