use Rattle.std.proofs.Common.{take}
use Rattle.std.specs.Prelude.{All}
use Rattle.cminor_syntax.specs.Fits.{IsFunction}
use Rattle.rtlgen.proofs.programs.are_in_range.Given as goal

abbrev pub invariant-loop-named : goal.invariant-loop-named
invariant-loop-named l = All (λ f. IsFunction f.function) (take l.named-index l.functions)
