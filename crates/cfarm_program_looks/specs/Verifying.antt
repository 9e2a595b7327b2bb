-- What `verify` comes to, on the bytes of its file: what it wrote, and what it answers.
use Rattle.std.specs.Prelude.{◌≡◌, ◌⊎◌, ℕ, List}
use Rattle.cfarm_verify.specs.Lines as verify
use Rattle.cfarm_verify.specs.Told.{HasVerified, IsUnverified, Printed}
use Rattle.cfarm_verify.specs.declared.error.VerifyError.{VerifyError}
use Rattle.cfarm_program_status.specs.Reading.{Coming}
use Rattle.cfarm_program_status.specs.Telling.{Answer, quiet, told}

-- of the files of these paths
abbrev pub verify_fault : (program bundle : List ℕ) → VerifyError → Answer
verify_fault program bundle fault = told (verify.status_of fault) (verify.verify_line fault program bundle)

-- the program of these bytes is verified by the bundle, or the first reason why it is not is told
abbrev pub Proven : (program_path path : List ℕ) → (text program bundle : List ℕ) → Coming
Proven program_path path text program bundle answer before after =
    (HasVerified text program bundle before after × (answer ≡ quiet))
    ⊎ ((fault : VerifyError) × IsUnverified text program bundle fault × Printed text program bundle fault before after
    × (answer ≡ verify_fault program_path path fault))
