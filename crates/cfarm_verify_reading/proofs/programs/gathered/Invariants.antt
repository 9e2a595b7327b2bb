use Rattle.std.proofs.Common.{◌≡◌, length}
use Rattle.std.specs.Vec.Iter.{into_iter_items, into_iter_len}
use Rattle.cfarm_verify_reading.specs.Made.{made_of}
use Rattle.cfarm_verify_reading.proofs.Made.{Gathered}
use Rattle.cfarm_verify_reading.proofs.programs.gathered.Given as goal

-- the first functions, and what is left of what was found
abbrev pub invariant-loop-one : goal.invariant-loop-one
invariant-loop-one l = record {
  counted : into_iter_len l.one-iterator ≡ length (into_iter_items l.one-iterator);
  gathered : Gathered (made_of l.functions) l.all.items (into_iter_items l.one-iterator);
}
