-- Which task a name is that of.
use Rattle.std.specs.Prelude.{◌≡◌, ◌==◌, ℕ, Bool, false, List, [], ◌∷◌, codes}
use Rattle.std.proofs.Common.{ap, refl, true≢false, ◌∙◌}
use Rattle.clap.specs.Words.{Row}
use Rattle.cfarm_command_line_tasks.specs.declared.task.FsckOptions.{FsckOptions}
use Rattle.cfarm_command_line_tasks.specs.declared.task.Task.{Task}
use Rattle.cfarm_command_line_tasks.specs.declared.task.Task.TheVariants.{Check, Interpret, Build, Exec, Settle, Simulate, Show, Verify, Emit, Judge, Native, Fsck}
use Rattle.cfarm_command_line_tasks.specs.declared.task.Task.TheVariants as task
use Rattle.cfarm_command_line_tasks.specs.Words.{AreFsckOptions, IsTask}

-- whether a name begins with `f`: of all commands `fsck` alone
abbrev begins_with_f : List ℕ → Bool
begins_with_f [] = false
begins_with_f (c ∷ cs) = c == 102

apart : (name : List ℕ) → begins_with_f name ≡ false → codes "fsck" ≡ name → ⊥
apart name other same = true≢false (ap begins_with_f same ∙ other)

pub only_fsck : (rows : List Row) (it : Task) → IsTask (codes "fsck") rows it → (options : FsckOptions) × AreFsckOptions rows options
only_fsck rows (Fsck options) is = (options, is.1)
only_fsck rows (Check format) is = absurd (apart (codes "check") refl is.0)
only_fsck rows (Interpret depth explaining) is = absurd (apart (codes "interpret") refl is.0)
only_fsck rows (Build options) is = absurd (apart (codes "build") refl is.0)
only_fsck rows (Exec limit expected explaining) is = absurd (apart (codes "exec") refl is.0)
only_fsck rows Settle is = absurd (apart (codes "settle") refl is)
only_fsck rows (Simulate showing) is = absurd (apart (codes "sim") refl is.0)
only_fsck rows Show is = absurd (apart (codes "show") refl is)
only_fsck rows task.List is = absurd (apart (codes "log") refl is)
only_fsck rows (Verify paths) is = absurd (apart (codes "verify") refl is.0)
only_fsck rows (Emit emitted seed) is = absurd (apart (codes "emit") refl is.0)
only_fsck rows (Judge offer) is = absurd (apart (codes "judge") refl is.0)
only_fsck rows (Native options) is = absurd (apart (codes "native") refl is.0)
