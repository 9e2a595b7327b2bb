-- Why `with_argument` meets its contract.
use Rattle.cfarm_command_line_others.proofs.Commands.{of_ok, takes_argument}
use Rattle.cfarm_command_line_others.proofs.joining.with_argument.Goals as goal

pub returns-in-Ok : goal.returns-in-Ok
returns-in-Ok c = λ app rule is argument.
    takes_argument c.in-Ok.command c.args.argument app rule c.arg.result c.arg.ensures (of_ok c.args.command c.in-Ok.command app c.in-Ok.is is) argument
