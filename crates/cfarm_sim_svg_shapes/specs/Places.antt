-- Where things stand in a drawing, in its units, from the left and from the top.
use Rattle.std.specs.Prelude.{ℕ, ◌+◌, ◌-◌, ◌*◌, ◌/◌, ◌==◌, ◌||◌, nat_lt, if◌then◌else◌}
use Rattle.cfarm_sim_svg_shapes.specs.declared.elements.Arrow.{Arrow}
use Rattle.cfarm_sim_svg_shapes.specs.declared.origin.Origin.{Origin}

-- the lane of a node
abbrev pub lane_at : ℕ → ℕ
lane_at node = 40 + 80 * node

-- a row, from 0
abbrev pub row_at : ℕ → ℕ
row_at row = 70 + 26 * row

-- the ends of the faint lines of so many nodes, and the labels
abbrev pub guides_end : ℕ → ℕ
guides_end nodes = 20 + 80 * nodes

abbrev pub labels_at : ℕ → ℕ
labels_at nodes = 26 + 80 * nodes

-- all of so many nodes
abbrev pub width_of : ℕ → ℕ
width_of nodes = 300 + 90 * nodes

-- the end of the lanes behind so many rows
abbrev pub lanes_end : ℕ → ℕ
lanes_end rows = 54 + 26 * rows

-- the end of the drawing
abbrev pub height_of : ℕ → ℕ
height_of rows = 90 + 26 * rows

-- how far down the way from a node's lane to another's is bent: where it crosses another lane, so that it is seen from one that ends there
abbrev pub bend_of : ℕ → ℕ → ℕ
bend_of from to = if nat_lt (from + 1) to || nat_lt (to + 1) from then 12 else 0

-- the place towards which it is bent, from the left: to the left where both are one
abbrev pub over_at : ℕ → ℕ → ℕ
over_at from to = if from == to then lane_at from - 30 else (lane_at from + lane_at to) / 2

-- the way of a message to a node
abbrev pub arrow_from : Origin → ℕ → ℕ → Arrow
arrow_from origin node row = record {
  from_x = lane_at origin.node;
  from_y = row_at origin.row;
  over_x = over_at origin.node node;
  over_y = (row_at origin.row + row_at row) / 2 + bend_of origin.node node;
  to_x = lane_at node;
  to_y = row_at row;
}
