-- Why `labels_are_lines` meets its contract.
use Rattle.cfarm_sim_svg_shapes.proofs.Saying.{labels_are_lines}
use Rattle.cfarm_sim_svg_shapes.proofs.labels.labels_are_lines.Goals as goal

pub returns : goal.returns
returns c = labels_are_lines
