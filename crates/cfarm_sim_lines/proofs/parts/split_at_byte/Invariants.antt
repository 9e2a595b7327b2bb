use Rattle.std.proofs.Common.{◌≡◌, ℕ, ◌<◌, ◌≤◌, ◌-◌, length, get_or, false}
use Rattle.cfarm_sim_lines.specs.Texts.{is_byte}
use Rattle.cfarm_sim_lines.proofs.parts.split_at_byte.Given as goal

-- none of the bytes before is the one that is looked for
abbrev pub invariant-loop-length : goal.invariant-loop-length
invariant-loop-length l = record {
  within : l.length ≤ length l.bytes;
  others : (k : ℕ) → k < l.length → is_byte l.byte (get_or l.bytes k 0) ≡ false;
}

abbrev pub decreases-loop-length : goal.decreases-loop-length
decreases-loop-length l = length l.bytes - l.length
