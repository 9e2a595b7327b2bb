-- Why `is_name` meets its contract.
use Rattle.lang.proofs.NameTests.{name_test}
use Rattle.lang.proofs.names.is_name.Goals as goal

pub returns : goal.returns
returns c = name_test c.args.bytes.now c.passes.result c.passes.ensures
