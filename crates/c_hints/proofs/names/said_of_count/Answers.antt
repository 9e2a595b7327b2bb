use Rattle.c_hints.proofs.Rows.{count_said}
use Rattle.c_hints.proofs.names.said_of_count.Goals as goal

-- src/names.rt:142:1
pub returns-in-Some-Some : goal.returns-in-Some-Some
returns-in-Some-Some c = count_said c.args.text.now c.args.found.now c.count_text.result c.in-Some-Some.wanted c.in-Some-Some.given c.count_text.ensures
