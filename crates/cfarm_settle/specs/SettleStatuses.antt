-- The exit statuses of `settle`.
use Rattle.std.specs.Prelude.{ℕ}
use Rattle.lang_base.specs.declared.errors.FormError.{FormError}
use Rattle.lang_base.specs.declared.errors.FormError.TheVariants as F
use Rattle.cfarm_settle.specs.declared.settle_error.SettleError.{SettleError}
use Rattle.cfarm_settle.specs.declared.settle_error.SettleError.TheVariants.{NoMemory, Form, Undecided, Write}

abbrev pub status_of : SettleError → ℕ
status_of NoMemory = 7
status_of (Form fault) = 1
status_of Undecided = 3
status_of Write = 4

-- Why a function is not settled where its bytes are refused: that memory was refused is no fault of the bytes.
abbrev pub refusal_of : FormError → SettleError
refusal_of F.NoMemory = NoMemory
refusal_of F.Short = Form F.Short
refusal_of F.BadTag = Form F.BadTag
refusal_of F.NotCanonical = Form F.NotCanonical
refusal_of F.TooLarge = Form F.TooLarge
