-- What stands round the rows of a drawing.
use Rattle.std.specs.Prelude.{ℕ, zero, suc, ◌+◌, List, [], ◌++◌, length, codes}
use Rattle.std.specs.Fmt.{decimal}
use Rattle.paxos_core_world.specs.Quorum.{Sizes}
use Rattle.paxos_core.specs.Schedule.{NodeCall, played}
use Rattle.cfarm_sim.specs.Plays.{closing}
use Rattle.cfarm_sim.specs.Rooms.{start}
use Rattle.cfarm_sim_lines.specs.declared.command.Command.{Command}
use Rattle.cfarm_sim_svg_shapes.specs.Elements.{lane_text, mark_text}
use Rattle.cfarm_sim_svg_shapes.specs.Marks.{name_tail}
use Rattle.cfarm_sim_svg_shapes.specs.Places.{height_of, lane_at, lanes_end, width_of}
use Rattle.cfarm_sim_svg_shapes.specs.Rows.{label_at, rows}

-- the sizes, how arrows end, and the ground
abbrev pub opening_text : ℕ → ℕ → List ℕ
opening_text width height =
    codes "<svg xmlns=\"http://www.w3.org/2000/svg\" width=\"" ++ (decimal width ++ (codes "\" height=\"" ++ (decimal height ++ (codes
    "\"\nfont-family=\"monospace\" font-size=\"12\" fill=\"none\" stroke=\"black\"><marker id=\"a\" markerWidth=\"9\" markerHeight=\"8\" refX=\"12\" refY=\"4\" orient=\"auto\"><path d=\"M0 0L9 4L0 8z\" fill=\"black\"/></marker><path d=\"M0 0H"
    ++ (decimal width ++ (codes "V" ++ (decimal height ++ codes "H0z\" fill=\"white\"/>")))))))

-- the lanes of the first nodes, each with its node's number on top
abbrev pub lanes_text : ℕ → ℕ → List ℕ
lanes_text zero end = []
lanes_text (suc n) end = lanes_text n end ++ (lane_text (lane_at n) end ++ mark_text (lane_at n) 16 (name_tail n))

-- in front of so many rows of so many nodes
abbrev pub head_text : ℕ → ℕ → List ℕ
head_text nodes count = opening_text (width_of nodes) (height_of count) ++ lanes_text nodes (lanes_end count)

-- behind them, with this last line
abbrev pub foot_text : ℕ → ℕ → List ℕ → List ℕ
foot_text nodes count line = label_at nodes count line ++ codes "</svg>"

-- rows and what stands round them
abbrev pub drawing_of : ℕ → ℕ → List ℕ → List ℕ → List ℕ
drawing_of nodes count body line = head_text nodes count ++ (body ++ foot_text nodes count line)

-- the drawing of commands that are done by these calls, of both of which the newest stands first
abbrev pub drawing : Sizes → List Command → List NodeCall → List ℕ
drawing q commands calls = drawing_of q.nodes (length calls) (rows q commands calls) (closing q (played (start q) calls))
