-- Why `sized` meets its contract.
use Rattle.cfarm_command_line_tasks.specs.Words.{accept_rule, nodes_rule, promise_rule}
use Rattle.cfarm_command_line.proofs.size_words.sized.Goals as goal

pub returns : goal.returns
returns c = λ app is.
    let counted = c.with_argument-counted.ensures app (nodes_rule c.args.choices) is c.nodes.ensures in
    let promised = c.with_argument-promised.ensures _ promise_rule counted c.promise.ensures in
    c.with_argument.ensures _ accept_rule promised c.accept.ensures
