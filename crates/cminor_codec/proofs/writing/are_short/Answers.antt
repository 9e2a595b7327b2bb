-- Why `are_short` meets its clause `each`.
use Rattle.cminor_codec.proofs.Texts.{each_short}
use Rattle.cminor_codec.proofs.writing.are_short.Goals as goal

pub returns-clause-each : goal.returns-clause-each
returns-clause-each c = each_short c.args.statements.now c.requires.1
