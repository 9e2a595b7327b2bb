-- The line that a user is shown where a program is verified or is not, and the exit status of the program.
use Rattle.std.specs.Prelude.{ℕ, zero, suc, List, ◌++◌, codes}
use Rattle.std.specs.Fmt.{decimal}
use Rattle.std.specs.String.{string_bytes}
use Rattle.hex.specs.Hex.{encode_lower}
use Rattle.sha2.specs.Sha256.{sha256}
use Rattle.lang_base.specs.declared.fault.Fault.TheVariants.{Shape, Node}
use Rattle.cfarm_output.specs.Lines.{form_line_in, form_status_of}
use Rattle.farm_nodes_source.specs.declared.fault.SourceFault.{SourceFault}
use Rattle.farm_nodes_source.specs.Told as source
use Rattle.bundle_offers.specs.Standing as standing
use Rattle.bundle_offers.specs.declared.fault.OfferFault.{OfferFault}
use Rattle.bundle_offers.specs.declared.fault.OfferFault.TheVariants as offer
use Rattle.cfarm_verify.specs.declared.error.VerifyError.{VerifyError}
use Rattle.cfarm_verify.specs.declared.error.VerifyError.TheVariants as verify

-- so many functions, and the digits of a hash
abbrev pub line_with : ℕ → List ℕ → List ℕ
line_with functions digits = codes "verified " ++ (decimal functions ++ (codes " functions " ++ (digits ++ codes "\n")))

-- so many functions, and the SHA-256 of the program's bytes
abbrev pub verified_line : ℕ → List ℕ → List ℕ
verified_line functions program = line_with functions (encode_lower (sha256 program))

abbrev pub fault_line_in : OfferFault → List ℕ → List ℕ
fault_line_in offer.NoMemory name = codes "memory"
fault_line_in (offer.Unchained pass) name =
    codes "refused 602 Unchained in " ++ (name ++ (codes " pass " ++ decimal (standing.number_of pass)))
fault_line_in (offer.Refused pass Shape) name =
    codes "refused 301 Refused in " ++ (name ++ (codes " pass " ++ (decimal (standing.number_of pass) ++ codes " shape")))
fault_line_in (offer.Refused pass (Node node)) name =
    codes "refused 301 Refused in " ++ (name ++ (codes " pass " ++ (decimal (standing.number_of pass) ++ (codes " node " ++ decimal node))))

abbrev pub verify_line : VerifyError → List ℕ → List ℕ → List ℕ
verify_line verify.NoMemory program bundle = codes "memory"
verify_line (verify.Source fault) program bundle = source.source_line fault
verify_line (verify.Program fault) program bundle = form_line_in fault program
verify_line (verify.Bundle fault) program bundle = form_line_in fault bundle
verify_line verify.OtherSource program bundle = codes "refused 404 OtherSource in " ++ bundle
verify_line verify.ProgramNames program bundle = codes "refused 603 Names in " ++ program
verify_line verify.BundleNames program bundle = codes "refused 603 Names in " ++ bundle
verify_line (verify.Offer fault name) program bundle = fault_line_in fault (string_bytes name)
verify_line (verify.OtherFunction name) program bundle = codes "refused 604 OtherProgram in " ++ string_bytes name
verify_line verify.OtherGlobals program bundle = codes "refused 604 OtherProgram in " ++ program
verify_line verify.Write program bundle = codes "write 701"

-- ---- the exit status: 7 for want of memory, 4 where the answer could not be written, else 1

abbrev pub unless_memory : ℕ → ℕ → ℕ
unless_memory zero status = status
unless_memory (suc zero) status = 7
unless_memory (suc (suc _)) status = status

abbrev pub source_status_of : SourceFault → ℕ
source_status_of fault = unless_memory (source.number_of fault) 1

abbrev pub fault_status_of : OfferFault → ℕ
fault_status_of offer.NoMemory = 7
fault_status_of fault = 1

abbrev pub status_of : VerifyError → ℕ
status_of verify.NoMemory = 7
status_of (verify.Source fault) = source_status_of fault
status_of (verify.Program fault) = form_status_of fault
status_of (verify.Bundle fault) = form_status_of fault
status_of (verify.Offer fault name) = fault_status_of fault
status_of verify.Write = 4
status_of other = 1
