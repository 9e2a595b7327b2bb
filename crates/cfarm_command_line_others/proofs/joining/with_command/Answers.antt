-- Why `with_command` meets its contract.
use Rattle.cfarm_command_line_others.proofs.Commands.{of_ok}
use Rattle.cfarm_command_line_others.proofs.joining.with_command.Goals as goal

pub returns-in-Ok : goal.returns-in-Ok
returns-in-Ok c = λ app inner is part. c.with_part.ensures app inner (of_ok c.args.command c.in-Ok.command app c.in-Ok.is is) part
