use Rattle.c_hints.proofs.Rows.{near_said}
use Rattle.c_hints.proofs.names.said_of_undeclared.Goals as goal

-- src/names.rt:90:1
pub returns-in-Some : goal.returns-in-Some
returns-in-Some c = near_said c.args.text.now c.args.found.now c.near_text.result c.in-Some.near c.token_at.result.now c.token_at.ensures c.near_text.ensures
