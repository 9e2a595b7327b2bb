use Rattle.std.proofs.Common.{◌≡◌, ◌-◌, ◌≤◌, ◌^◌}
use Rattle.native_lowering_definition.specs.Powers.{exponent_from, exponent}
use Rattle.native_lowering_code.proofs.powers.exponent.Given as goal

abbrev pub invariant-loop-k : goal.invariant-loop-k
invariant-loop-k l = record { within : l.k ≤ 32; power : l.power ≡ 2 ^ l.k; rest : exponent_from l.k (32 - l.k) l.word ≡ exponent l.word }

abbrev pub decreases-loop-k : goal.decreases-loop-k
decreases-loop-k l = 32 - l.k
