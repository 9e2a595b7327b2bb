-- Why `task_of` meets its clause `none`.
use Rattle.std.proofs.Common.{refl, subst}
use Rattle.clap.specs.Words.{found_of, rows_of}
use Rattle.cfarm_command_line_tasks.specs.Words.{IsTask}
use Rattle.cfarm_command_line.proofs.Tasks.{only_fsck}
use Rattle.cfarm_command_line.proofs.command_line.task_of.Goals as goal

pub returns-in-None-fsck_options_of-clause-none : goal.returns-in-None-fsck_options_of-clause-none
returns-in-None-fsck_options_of-clause-none c = λ none task is.
    let rows = rows_of (found_of c.args.words.now) in
    let it = only_fsck rows task (subst (λ name. IsTask name rows task) c.in-fsck.is is) in
    c.in-None-fsck_options_of.ensures.none refl it.0 it.1
