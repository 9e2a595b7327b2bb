use Rattle.std.specs.Io.KnownBytes.{Keeps}
use Rattle.lang_helpers.proofs.printing.print.Given as goal

-- nothing is written yet
abbrev pub invariant-loop : goal.invariant-loop
invariant-loop g l = Keeps (g.W.Write.contents l.fn.out) (g.W.Write.contents l.out)
