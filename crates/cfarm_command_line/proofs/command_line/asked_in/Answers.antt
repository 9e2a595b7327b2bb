-- Why `asked_in` meets its clause `none`.
use Rattle.clap.specs.Words.{found_of}
use Rattle.cfarm_command_line_others.proofs.Commands.{nothing_without_file}
use Rattle.cfarm_command_line.proofs.command_line.asked_in.Goals as goal

pub returns-in_default-clause-none : goal.returns-in_default-clause-none
returns-in_default-clause-none c = λ none. nothing_without_file c.args.name.now (found_of c.args.words.now) c.in_default.ensures

pub returns-in_default-task_of-clause-none : goal.returns-in_default-task_of-clause-none
returns-in_default-task_of-clause-none c = λ none task path asked. c.in_default-task_of.ensures.none none task asked.0
