use Rattle.std.proofs.Common.{◌≡◌, length, All}
use Rattle.locations.specs.Fits.{LocationFits}
use Rattle.oracle_graphs.proofs.parameters.locations_of.Given as goal

abbrev pub invariant-loop-register : goal.invariant-loop-register
invariant-loop-register l = record {
  count : length l.made.items ≡ l.register-index;
  fit : All (LocationFits l.assignment.slots) l.made.items;
}
