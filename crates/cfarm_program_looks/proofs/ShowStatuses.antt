-- Each status of `show` is at most 7.
use Rattle.std.specs.Prelude.{◌≤◌}
use Rattle.std.proofs.Common.{arith}
use Rattle.lang_base.specs.declared.errors.FormError.TheVariants as form
use Rattle.lang_helpers.specs.declared.error.RunError.TheVariants as run
use Rattle.text_files.specs.Statuses.{status_of}
use Rattle.text_files.specs.declared.error.ShowError.{ShowError}
use Rattle.text_files.specs.declared.error.ShowError.TheVariants as show

pub in_table : (fault : ShowError) → status_of fault ≤ 7
in_table (show.Form form.NoMemory) = omega arith
in_table (show.Form form.Short) = omega arith
in_table (show.Form form.BadTag) = omega arith
in_table (show.Form form.NotCanonical) = omega arith
in_table (show.Form form.TooLarge) = omega arith
in_table (show.Run run.NoMemory) = omega arith
in_table (show.Run run.Write) = omega arith
