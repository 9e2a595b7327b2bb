use Rattle.lang.proofs.NamedRows.{IsUnderWay}
use Rattle.lang.proofs.functions.read_functions.Given as goal

abbrev pub invariant-loop : goal.invariant-loop
invariant-loop g l = IsUnderWay g.L.Language.spelling g.L.Language.fits l.fn.bytes.now l.functions.items l.bytes.now l.counter
