-- The exit status where a build is not done, and the line that a user is shown.
use Rattle.std.specs.Prelude.{ℕ, List, codes}
use Rattle.std.specs.String.{string_bytes}
use Rattle.cfarm_files.specs.Reasons.{file_line}
use Rattle.cfarm_build_faults.specs.Lines.{told_line}
use Rattle.cfarm_build_faults.specs.Statuses as farm
use Rattle.cfarm_build_folder.specs.declared.error.BuildingError.{BuildingError}
use Rattle.cfarm_build_folder.specs.declared.error.BuildingError.TheVariants.{Build, File, Write}

abbrev pub status_of : BuildingError → ℕ
status_of (Build fault) = farm.status_of fault
status_of (File path reason) = 2
status_of Write = 4

abbrev pub building_line : BuildingError → List ℕ
building_line (Build fault) = told_line fault
building_line (File path reason) = file_line (string_bytes path) reason
building_line Write = codes "write 701"
