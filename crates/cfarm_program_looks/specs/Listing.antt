-- What `log` comes to, on the bytes of its file: what it wrote, and what it answers.
use Rattle.std.specs.Prelude.{◌≡◌, ◌⊎◌, ℕ, List, Option}
use Rattle.cfarm_log.specs.Faults.{log_line, log_status}
use Rattle.cfarm_log.specs.Listing.{IsListed, IsStoppedAt}
use Rattle.cfarm_log.specs.declared.error.ListingError.{ListingError}
use Rattle.cfarm_program_status.specs.Telling.{Answer, quiet, told}

abbrev pub list_fault : ListingError → Answer
list_fault fault = told (log_status fault) (log_line fault)

-- the records that opening would list are printed, or the first fault is told behind what stands before it
abbrev pub Listed : List ℕ → Answer → Option (List ℕ) → Option (List ℕ) → Type 0
Listed bytes answer before after =
    (IsListed bytes before after × (answer ≡ quiet))
    ⊎ ((fault : ListingError) × IsStoppedAt bytes fault before after × (answer ≡ list_fault fault))
