use Rattle.std.proofs.Common.{◌≡◌, ℕ, length, None}
use Rattle.std.specs.Prelude.{slice_index_or}
use Rattle.parallel_validate.specs.Verdicts.{IsKnown}
use Rattle.parallel_validate.proofs.checking.check_all.Given as goal

-- what is known is right, of as many jobs as there are
abbrev pub invariant-loop-verdicts : goal.invariant-loop-verdicts
invariant-loop-verdicts g l = ((i : ℕ) → IsKnown g.P.Pass.accepts l.jobs i (slice_index_or l.known.items i None)) × (length l.known.items ≡ length l.jobs)
