-- Why `generated_is_small` meets its contract.
use Rattle.rtlgen.proofs.Needs.{generated_is_small}
use Rattle.rtlgen.proofs.law.generated_is_small.Goals as goal

pub returns : goal.returns
returns c = generated_is_small
