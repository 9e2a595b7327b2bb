-- Why `sequence` meets its contract.
use Rattle.cminor_codec.proofs.Rows.{view_sequence}
use Rattle.cminor_codec.proofs.statements.sequence.Goals as goal

pub returns : goal.returns
returns c = view_sequence c.args.statements
