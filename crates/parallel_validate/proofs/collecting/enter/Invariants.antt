use Rattle.std.proofs.Common.{◌≡◌, ℕ, length, None}
use Rattle.std.specs.Prelude.{slice_index_or}
use Rattle.parallel_validate.specs.Verdicts.{IsKnown}
use Rattle.parallel_validate.proofs.collecting.enter.Given as goal

-- what is known is right, of as many jobs as before
abbrev pub invariant-loop-verdict : goal.invariant-loop-verdict
invariant-loop-verdict g l = ((i : ℕ) → IsKnown g.P.Pass.accepts l.jobs i (slice_index_or l.known i None)) × (length l.known ≡ length l.fn.known)
