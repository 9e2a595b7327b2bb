-- The numbers that a user is shown beside the names of refusals.
use Rattle.std.specs.Prelude.{ℕ}
use Rattle.acceptor_log_form.specs.declared.errors.LogError.{LogError}
use Rattle.acceptor_log_form.specs.declared.errors.LogError.TheVariants.{NoMemory, Device, NotAJournal, BadRecord, OtherSource, Stopped, Full}

abbrev pub number_of : LogError → ℕ
number_of NoMemory = 1
number_of Device = 401
number_of NotAJournal = 402
number_of BadRecord = 403
number_of OtherSource = 404
number_of Stopped = 405
number_of Full = 406
