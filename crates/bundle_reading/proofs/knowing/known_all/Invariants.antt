use Rattle.std.proofs.Common.{◌≡◌, ◌++◌, length}
use Rattle.std.specs.List.{AllByRecursion}
use Rattle.std.specs.Vec.Iter.{into_iter_items, into_iter_len}
use Rattle.chains.specs.Accepted.{AreAccepted}
use Rattle.bundle_reading.specs.Read.{offers_in}
use Rattle.bundle_reading.proofs.knowing.known_all.Given as goal

-- the offers so far, and the parts that are left, all of them accepted
abbrev pub invariant-loop-four : goal.invariant-loop-four
invariant-loop-four l = record {
  split : offers_in l.fn.fours.items ≡ l.offers.items ++ offers_in (into_iter_items l.four-iterator);
  counted : into_iter_len l.four-iterator ≡ length (into_iter_items l.four-iterator);
  accepted : AllByRecursion AreAccepted (offers_in (into_iter_items l.four-iterator));
}
