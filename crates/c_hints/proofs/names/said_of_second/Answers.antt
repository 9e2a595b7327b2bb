use Rattle.std.proofs.Common.{ap}
use Rattle.c_hints.proofs.Rows.{second_said}
use Rattle.c_hints.proofs.names.said_of_second.Goals as goal

-- src/names.rt:126:1
pub returns-in-Some : goal.returns-in-Some
returns-in-Some c =
    second_said c.args.text.now c.args.found.now c.second_text.result c.in-Some.first c.place_of.result.line c.in-Some.ensures (ap (λ place. place.line) c.place_of.ensures) c.second_text.ensures
