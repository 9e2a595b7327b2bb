use Rattle.std.proofs.Common.{All, take}
use Rattle.cminor_program_ranges.proofs.laws.all_known.Given as goal

-- the first functions fit
abbrev pub invariant-loop-named : goal.invariant-loop-named
invariant-loop-named g l = All (λ f. g.L.Language.fits f.function) (take l.named-index l.functions)
