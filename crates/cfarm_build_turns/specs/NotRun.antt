-- Why nodes do not take their turns: only for want of memory or of a thread.
use Rattle.cfarm_build_faults.specs.declared.error.BuildError.{BuildError}
use Rattle.cfarm_build_faults.specs.declared.error.BuildError.TheVariants.{NoMemory, NoThread, Source, Disks, Failed, Undecided, Unlinked, Names}

abbrev pub IsNotRun : BuildError → Type 0
IsNotRun NoMemory = Unit {0}
IsNotRun NoThread = Unit {0}
IsNotRun (Source fault) = ⊥
IsNotRun (Disks fault) = ⊥
IsNotRun (Failed number fault) = ⊥
IsNotRun Undecided = ⊥
IsNotRun (Unlinked fault function) = ⊥
IsNotRun Names = ⊥
