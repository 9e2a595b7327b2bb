-- The options that say how many nodes a farm has, and of what sizes its quorums are.
use Rattle.clap.specs.Words.{App, with_rule}
use Rattle.cfarm_command_line_tasks.specs.Words.{accept_rule, nodes_rule, promise_rule}
use Rattle.cfarm_command_line_tasks.specs.declared.choices.Choices.{Choices}

-- the command with them
abbrev pub with_sizes : App → Choices → App
with_sizes app choices = with_rule (with_rule (with_rule app (nodes_rule choices)) promise_rule) accept_rule
