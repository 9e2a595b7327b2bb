-- The line that a user is shown where an offer is accepted or is not, and the exit status of the program.
use Rattle.std.specs.Prelude.{ℕ, zero, suc, List, ◌++◌, codes}
use Rattle.std.specs.Fmt.{decimal}
use Rattle.lang_base.specs.declared.fault.Fault.{Fault}
use Rattle.lang_base.specs.declared.fault.Fault.TheVariants.{Shape, Node}
use Rattle.cfarm_output.specs.Lines.{form_line_in, form_status_of}
use Rattle.farm_nodes_source.specs.declared.fault.SourceFault.{SourceFault}
use Rattle.farm_nodes_source.specs.Told as source
use Rattle.bundle_offers.specs.Standing as standing
use Rattle.bundle_offers.specs.declared.fault.PassNumber.{PassNumber}
use Rattle.cfarm_judge.specs.declared.error.JudgeError.{JudgeError}
use Rattle.cfarm_judge.specs.declared.error.JudgeError.TheVariants as judge

-- the pass that accepts the offer
abbrev pub accepted_line : PassNumber → List ℕ
accepted_line pass = codes "accepted pass " ++ (decimal (standing.number_of pass) ++ codes "\n")

abbrev pub refused_line : PassNumber → Fault → List ℕ
refused_line pass Shape = codes "refused 301 Refused pass " ++ (decimal (standing.number_of pass) ++ codes " shape")
refused_line pass (Node node) =
    codes "refused 301 Refused pass " ++ (decimal (standing.number_of pass) ++ (codes " node " ++ decimal node))

abbrev pub judge_line : JudgeError → List ℕ → List ℕ → List ℕ
judge_line judge.NoMemory name path = codes "memory"
judge_line (judge.Source fault) name path = source.source_line fault
judge_line judge.NoFunction name path = codes "refused 603 Names in " ++ name
judge_line (judge.Form fault) name path = form_line_in fault path
judge_line judge.Unchained name path = codes "refused 602 Unchained"
judge_line (judge.Refused pass fault) name path = refused_line pass fault
judge_line judge.Write name path = codes "write 701"

-- ---- the exit status: 7 for want of memory, 4 where the answer could not be written, else 1

abbrev pub unless_memory : ℕ → ℕ → ℕ
unless_memory zero status = status
unless_memory (suc zero) status = 7
unless_memory (suc (suc _)) status = status

abbrev pub source_status_of : SourceFault → ℕ
source_status_of fault = unless_memory (source.number_of fault) 1

abbrev pub status_of : JudgeError → ℕ
status_of judge.NoMemory = 7
status_of (judge.Source fault) = source_status_of fault
status_of judge.NoFunction = 1
status_of (judge.Form fault) = form_status_of fault
status_of judge.Unchained = 1
status_of (judge.Refused pass fault) = 1
status_of judge.Write = 4
