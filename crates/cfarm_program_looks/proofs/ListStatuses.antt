-- Each status of `log` is at most 7.
use Rattle.std.specs.Prelude.{◌≤◌}
use Rattle.std.proofs.Common.{arith}
use Rattle.cfarm_log.specs.Faults.{log_status}
use Rattle.cfarm_log.specs.declared.error.ListingError.{ListingError}
use Rattle.cfarm_log.specs.declared.error.ListingError.TheVariants as log

pub in_table : (fault : ListingError) → log_status fault ≤ 7
in_table log.NoMemory = omega arith
in_table (log.Journal fault place) = omega arith
in_table log.Write = omega arith
