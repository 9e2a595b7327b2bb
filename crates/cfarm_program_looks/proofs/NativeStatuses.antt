-- Each status of a fault of the text of native code is at most 7.
use Rattle.std.specs.Prelude.{◌≤◌}
use Rattle.std.proofs.Common.{arith}
use Rattle.lang_base.specs.declared.errors.FormError.TheVariants as F
use Rattle.lang_helpers.specs.declared.error.RunError.TheVariants as R
use Rattle.cfarm_run.specs.ExecStatuses.{status_of}
use Rattle.cfarm_run.specs.declared.exec_error.ExecError.{ExecError}
use Rattle.cfarm_run.specs.declared.exec_error.ExecError.TheVariants.{Form, Run}

pub in_table : (fault : ExecError) → status_of fault ≤ 7
in_table (Form F.NoMemory) = omega arith
in_table (Form F.Short) = omega arith
in_table (Form F.BadTag) = omega arith
in_table (Form F.NotCanonical) = omega arith
in_table (Form F.TooLarge) = omega arith
in_table (Run R.NoMemory) = omega arith
in_table (Run R.Write) = omega arith
