-- The line that a user is shown where a journal is not listed to its end, and the exit status.
use Rattle.std.specs.Prelude.{ℕ, List, ◌++◌, codes}
use Rattle.std.specs.Fmt.{decimal}
use Rattle.acceptor_log_form.specs.Refusals.{number_of}
use Rattle.acceptor_log_form.specs.declared.errors.LogError.{LogError}
use Rattle.acceptor_log_form.specs.declared.errors.LogError.TheVariants as log
use Rattle.cfarm_log.specs.declared.error.ListingError.{ListingError}
use Rattle.cfarm_log.specs.declared.error.ListingError.TheVariants.{NoMemory, Journal, Write}
use Rattle.cfarm_log.specs.declared.head.HeadFault.{HeadFault}
use Rattle.cfarm_log.specs.declared.head.HeadFault.TheVariants as head

abbrev pub refusal_name : LogError → List ℕ
refusal_name log.NoMemory = codes "NoMemory"
refusal_name log.Device = codes "Device"
refusal_name log.NotAJournal = codes "NotAJournal"
refusal_name log.BadRecord = codes "BadRecord"
refusal_name log.OtherSource = codes "OtherSource"
refusal_name log.Stopped = codes "Stopped"
refusal_name log.Full = codes "Full"

abbrev pub log_line : ListingError → List ℕ
log_line NoMemory = codes "memory"
log_line (Journal fault place) =
    codes "journal " ++ (decimal (number_of fault) ++ (codes " " ++ (refusal_name fault ++ (codes " at byte " ++ decimal place))))
log_line Write = codes "write 701"

abbrev pub log_status : ListingError → ℕ
log_status NoMemory = 7
log_status (Journal fault place) = 4
log_status Write = 4

-- where bytes with no header have their fault: at the front, or at the number of nodes
abbrev pub head_told : HeadFault → ListingError
head_told head.NotAJournal = Journal log.NotAJournal 0
head_told head.EvenNodes = Journal log.OtherSource 4
