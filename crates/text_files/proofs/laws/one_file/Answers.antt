-- Why `one_file` meets its contract.
use Rattle.text_files.proofs.laws.one_file.Goals as goal
use Rattle.text_files.proofs.Files.{one_file}

pub returns : goal.returns
returns c = one_file
