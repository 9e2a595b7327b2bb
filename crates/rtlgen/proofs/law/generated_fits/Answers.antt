-- Why `generated_fits` meets its contract.
use Rattle.rtlgen.proofs.FunctionsFit.{generated_fits}
use Rattle.rtlgen.proofs.law.generated_fits.Goals as goal

pub returns : goal.returns
returns c = generated_fits
