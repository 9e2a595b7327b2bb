-- Why `read_if_there` meets its clause where nothing is there.
use Rattle.cfarm_files.specs.declared.reason.Reason.TheVariants.{Unsaid}
use Rattle.cfarm_files.proofs.host.HostFilesFiles.read_if_there.Goals as goal

pub returns-in-Err : goal.returns-in-Err
returns-in-Err c = ((Unsaid, tt), tt)
