-- Why `asked_for` meets its clauses `answers`, `wrong` and `refused`.
use Rattle.std.specs.Prelude.{map, string_bytes}
use Rattle.cfarm_command_line_tasks.specs.declared.choices.Bounds.TheVariants.{Unbounded}
use Rattle.cfarm_command_line.proofs.Bounds.{answers_by, refused_by, wrong_by}
use Rattle.cfarm_command_line.proofs.command_line.asked_for.Goals as goal

pub returns-in-Ok-asked_with-clause-answers : goal.returns-in-Ok-asked_with-clause-answers
returns-in-Ok-asked_with-clause-answers c = answers_by c.args.choices (map string_bytes c.args.words.now) Unbounded c.in-Ok-asked_with.asked
    c.in-Ok-asked_with.ensures.right c.in-Ok-asked_with.ensures.asks c.in-Ok-asked_with.ensures.none

pub returns-in-Err-asked_with-clause-wrong : goal.returns-in-Err-asked_with-clause-wrong
returns-in-Err-asked_with-clause-wrong c = wrong_by c.args.choices (map string_bytes c.args.words.now) c.in-Err.counted c.in-Err-asked_with.unbounded c.told_of.result
    c.told_of.ensures c.in-Err.ensures.right c.in-Err-asked_with.ensures.right

pub returns-in-Err-asked_with-clause-refused : goal.returns-in-Err-asked_with-clause-refused
returns-in-Err-asked_with-clause-refused c = refused_by c.args.choices (map string_bytes c.args.words.now) c.in-Err.counted c.in-Err-asked_with.unbounded c.told_of.result
    c.told_of.ensures c.in-Err.ensures.refused c.in-Err-asked_with.ensures.refused
