-- The line that a user is shown where nothing is emitted, and the exit status of the program.
use Rattle.std.specs.Prelude.{ℕ, zero, suc, List, codes}
use Rattle.farm_nodes_source.specs.declared.fault.SourceFault.{SourceFault}
use Rattle.farm_nodes_source.specs.Told as source
use Rattle.cfarm_emit.specs.declared.error.EmitError.{EmitError}
use Rattle.cfarm_emit.specs.declared.error.EmitError.TheVariants.{Source, NoMemory, Write}

abbrev pub emit_line : EmitError → List ℕ
emit_line (Source fault) = source.source_line fault
emit_line NoMemory = codes "memory"
emit_line Write = codes "write 701"

-- 7 for the number of want of memory, this one for others
abbrev pub unless_memory : ℕ → ℕ → ℕ
unless_memory zero status = status
unless_memory (suc zero) status = 7
unless_memory (suc (suc _)) status = status

abbrev pub source_status_of : SourceFault → ℕ
source_status_of fault = unless_memory (source.number_of fault) 1

abbrev pub status_of : EmitError → ℕ
status_of (Source fault) = source_status_of fault
status_of NoMemory = 7
status_of Write = 4
