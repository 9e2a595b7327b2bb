use Rattle.std.proofs.Common.{ap}
use Rattle.c_hints.proofs.Rows.{behind_said}
use Rattle.c_hints.proofs.names.said_of_own.Goals as goal

-- src/names.rt:79:1
pub returns-in-Some : goal.returns-in-Some
returns-in-Some c =
    behind_said c.args.text.now c.args.found.now c.behind_text.result c.in-Some.behind c.place_of.result.line c.in-Some.ensures (ap (λ place. place.line) c.place_of.ensures) c.behind_text.ensures
