use Rattle.std.specs.Prelude.{◌≡◌, ◌≤◌, ◌+◌, take}
use Rattle.c_places.specs.Places.{behind_all}
use Rattle.c_places.proofs.place.place_of.Given as goal

abbrev pub invariant-loop-count : goal.invariant-loop-count
invariant-loop-count l = record {
  place : l.place ≡ behind_all (take l.count l.front);
  line : l.place.line ≤ l.count + 1;
  column : l.place.column ≤ l.count + 1;
}
