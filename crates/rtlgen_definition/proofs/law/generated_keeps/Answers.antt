-- Why `generated_keeps` meets its contract.
use Rattle.rtlgen_definition.proofs.Programs.{generated_keeps}
use Rattle.rtlgen_definition.proofs.law.generated_keeps.Goals as goal

pub returns : goal.returns
returns c = generated_keeps
