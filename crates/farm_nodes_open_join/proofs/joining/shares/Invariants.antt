use Rattle.std.proofs.Common.{◌≡◌, All, length}
use Rattle.std.specs.Arc.{arc_value}
use Rattle.farm_nodes_open_join.proofs.joining.shares.Given as goal

-- the shares so far
abbrev pub invariant-loop-share : goal.invariant-loop-share
invariant-loop-share g l = record {
  count : length l.shares.items ≡ l._share;
  same : All (λ p. arc_value p ≡ arc_value l.program) l.shares.items;
}
