use Rattle.std.proofs.Common.{◌≡◌, ◌++◌, length, map}
use Rattle.std.specs.Vec.Iter.{into_iter_items, into_iter_len}
use Rattle.bundle_reading.specs.Read.{four_in}
use Rattle.bundle_reading.proofs.Paired.{paired}
use Rattle.bundle_reading.proofs.Readings.{Gathered}
use Rattle.bundle_reading.proofs.gathering.gathered.Given as goal

-- the parts of the first functions, what was answered of them, and what is left of what was found
abbrev pub invariant-loop-one : goal.invariant-loop-one
invariant-loop-one g l = record {
  counted : into_iter_len l.one-iterator ≡ length (into_iter_items l.one-iterator);
  gathered : Gathered l.functions l.fours.items (map four_in (into_iter_items l.one-iterator));
  many : length l.told.items ≡ length l.fours.items;
  split : l.fn.found.items ≡ paired l.fours.items l.told.items ++ into_iter_items l.one-iterator;
}
