-- Where the end of a run is explained to nobody, nobody sees it.
use Rattle.std.specs.Prelude.{◌≡◌, Bool, false}
use Rattle.std.proofs.Common.{true≢false}
use Rattle.cfarm_command_line_tasks.specs.declared.task.Explaining.{Explaining}
use Rattle.cfarm_command_line_tasks.specs.declared.task.Explaining.TheVariants.{Seen, Always}
use Rattle.cfarm_program_runs.specs.Explained.{is_asked}

pub unseen_where_unasked : (is_seen : Bool) (e : Explaining) → is_asked is_seen e ≡ false → is_seen ≡ false
unseen_where_unasked is_seen Seen unseen = unseen
unseen_where_unasked is_seen Always unseen = absurd (true≢false unseen)
