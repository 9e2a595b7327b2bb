use Rattle.std.proofs.Common.{ℕ}
use Rattle.std.specs.Prelude.{Option, None, Some, Result, Ok, Err}
use Rattle.std.specs.Global.{Vec}
use Rattle.cfarm_files.specs.Reading.{IsFileReadIfThere}
use Rattle.cfarm_files.specs.declared.fault.FileFault.{FileFault}
use Rattle.cfarm_files.specs.declared.fault.FileFault.TheVariants.{NoMemory, Refused}
use Rattle.cfarm_files.specs.declared.reason.Reason.TheVariants.{Unsaid}
use Rattle.worked_fakes.proofs.given.GivenFiles.read_if_there.Goals as goal

-- where nothing is known of a file, whatever was read of it is so
unknown : (result : Result (Option (Vec ℕ)) FileFault) → IsFileReadIfThere None None result
unknown (Ok None) = ((Unsaid, tt), tt)
unknown (Ok (Some bytes)) = tt
unknown (Err NoMemory) = tt
unknown (Err (Refused reason)) = (tt, tt)

-- src/given.rt:223:5
pub returns : goal.returns
returns c = unknown c.file_in.result
