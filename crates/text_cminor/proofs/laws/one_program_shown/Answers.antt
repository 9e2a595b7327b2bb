-- Why `one_program_shown` meets its contract.
use Rattle.text_cminor.proofs.laws.one_program_shown.Goals as goal
use Rattle.text_cminor.proofs.Programs.{one_program}

pub returns : goal.returns
returns c = one_program
