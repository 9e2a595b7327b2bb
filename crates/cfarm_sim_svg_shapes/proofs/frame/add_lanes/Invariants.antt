use Rattle.std.proofs.Common.{◌≡◌, ◌++◌}
use Rattle.std.specs.String.{string_bytes}
use Rattle.cfarm_sim_svg_shapes.specs.Frame.{lanes_text}
use Rattle.cfarm_sim_svg_shapes.proofs.frame.add_lanes.Given as goal

-- the first lanes are drawn
abbrev pub invariant-loop-node : goal.invariant-loop-node
invariant-loop-node l = string_bytes l.text ≡ string_bytes l.fn.text ++ lanes_text l.node l.end
