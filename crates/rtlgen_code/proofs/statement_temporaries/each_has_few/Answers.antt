-- Why `each_has_few` meets its contract.
use Rattle.rtlgen_code.proofs.Rows.{each_needs_few}
use Rattle.rtlgen_code.proofs.statement_temporaries.each_has_few.Goals as goal

pub returns : goal.returns
returns c = each_needs_few c.args.statements.now c.requires
