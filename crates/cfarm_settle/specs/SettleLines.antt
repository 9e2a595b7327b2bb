-- The line that a user is shown where `settle` is not done.
use Rattle.std.specs.Prelude.{ℕ, List, codes}
use Rattle.cfarm_output.specs.Lines.{form_line}
use Rattle.cfarm_settle.specs.declared.settle_error.SettleError.{SettleError}
use Rattle.cfarm_settle.specs.declared.settle_error.SettleError.TheVariants as settle

abbrev pub settle_line : SettleError → List ℕ
settle_line settle.NoMemory = codes "memory"
settle_line (settle.Form fault) = form_line fault
settle_line settle.Undecided = codes "undecided"
settle_line settle.Write = codes "write 701"
