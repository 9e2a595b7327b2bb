use Rattle.std.proofs.Common.{◌≡◌, length}
use Rattle.bundle_reading.proofs.gathering.places_for.Given as goal

abbrev pub invariant-loop : goal.invariant-loop
invariant-loop g l = length l.found.items ≡ l.counter
