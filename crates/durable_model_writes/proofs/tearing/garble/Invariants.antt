use Rattle.std.proofs.Common.{◌≡◌, length, take, drop}
use Rattle.durable_model_writes.proofs.tearing.garble.Given as goal

-- the bytes before the range and behind it stay
abbrev pub invariant-loop-i : goal.invariant-loop-i
invariant-loop-i l = record {
  same_length : length l.file.items ≡ length l.initial.file.items;
  before : take l.from l.file.items ≡ take l.from l.initial.file.items;
  after : drop l.end l.file.items ≡ drop l.end l.initial.file.items;
}
