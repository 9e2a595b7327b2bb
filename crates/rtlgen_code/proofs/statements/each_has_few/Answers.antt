-- Why `each_has_few` meets its contract.
use Rattle.rtlgen_code.proofs.Rows.{each_few}
use Rattle.rtlgen_code.proofs.statements.each_has_few.Goals as goal

pub returns : goal.returns
returns c = each_few c.args.temporary c.args.statements.now c.requires
