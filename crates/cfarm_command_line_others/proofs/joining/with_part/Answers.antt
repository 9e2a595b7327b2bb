-- Why `with_part` meets its contract.
use Rattle.cfarm_command_line_others.proofs.Commands.{of_ok, takes_command}
use Rattle.cfarm_command_line_others.proofs.joining.with_part.Goals as goal

pub returns-in-Ok : goal.returns-in-Ok
returns-in-Ok c = λ app inner is part.
    takes_command c.args.command c.in-Ok.part app inner c.subcommand.result c.subcommand.ensures is (of_ok c.args.part c.in-Ok.part inner c.in-Ok.is part)
