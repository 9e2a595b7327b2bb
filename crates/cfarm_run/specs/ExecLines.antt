-- The line that a user is shown where `exec` is not done.
use Rattle.std.specs.Prelude.{ℕ, List, codes}
use Rattle.lang_base.specs.declared.errors.FormError.TheVariants as form
use Rattle.lang_helpers.specs.declared.error.RunError.TheVariants as run
use Rattle.cfarm_output.specs.Lines.{form_line}
use Rattle.cfarm_run.specs.declared.exec_error.ExecError.{ExecError}
use Rattle.cfarm_run.specs.declared.exec_error.ExecError.TheVariants as exec

abbrev pub exec_line : ExecError → List ℕ
exec_line (exec.Form form.NoMemory) = codes "memory"
exec_line (exec.Form form.Short) = form_line form.Short
exec_line (exec.Form form.BadTag) = form_line form.BadTag
exec_line (exec.Form form.NotCanonical) = form_line form.NotCanonical
exec_line (exec.Form form.TooLarge) = form_line form.TooLarge
exec_line (exec.Run run.NoMemory) = codes "memory"
exec_line (exec.Run run.Write) = codes "write 701"
