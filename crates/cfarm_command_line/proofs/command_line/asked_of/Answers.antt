-- Why `asked_of` meets its clauses `some` and `none`.
use Rattle.clap.specs.Words.{found_of}
use Rattle.cfarm_command_line_others.proofs.Commands.{asked_from, nothing_from, nothing_without}
use Rattle.cfarm_command_line.proofs.command_line.asked_of.Goals as goal

pub returns-in-Some-clause-some : goal.returns-in-Some-clause-some
returns-in-Some-clause-some c =
    let found = c.in-Some.found in
    asked_from _ _ _ found.0.now (found_of found.1.now) c.asked_in.result c.in-Some.ensures.name c.in-Some.ensures.rows c.asked_in.ensures.task c.asked_in.ensures.path

pub returns-in-Some-clause-none : goal.returns-in-Some-clause-none
returns-in-Some-clause-none c =
    let found = c.in-Some.found in
    λ none. nothing_from _ _ _ found.0.now (found_of found.1.now) c.in-Some.ensures.name c.in-Some.ensures.rows (c.asked_in.ensures.none none)

pub returns-in-None-clause-none : goal.returns-in-None-clause-none
returns-in-None-clause-none c = λ none. nothing_without _ c.in-None.ensures.rows
