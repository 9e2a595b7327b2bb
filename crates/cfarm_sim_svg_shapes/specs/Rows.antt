-- The rows of a drawing, one for each command.
use Rattle.std.specs.Prelude.{ℕ, ◌+◌, ◌-◌, ◌==◌, if◌then◌else◌, List, [], ◌∷◌, ◌++◌, Bool, false, not, Option, Some, None, length, slice_get}
use Rattle.paxos_core_world.specs.Quorum.{Sizes}
use Rattle.paxos_core.specs.Schedule.{NodeCall, played}
use Rattle.cfarm_sim.specs.Rooms.{start, told_by}
use Rattle.cfarm_sim.specs.Told.{told_text}
use Rattle.cfarm_sim.specs.declared.told.Told.{Told}
use Rattle.cfarm_sim.specs.declared.told.Told.TheVariants as told
use Rattle.cfarm_sim_lines.specs.declared.command.Command.{Command}
use Rattle.cfarm_sim_lines.specs.declared.command.Command.TheVariants.{Offer, Start, Propose, Restart, Deliver}
use Rattle.cfarm_sim_svg_shapes.specs.Elements.{arrow_text, guide_text, label_text, mark_text}
use Rattle.cfarm_sim_svg_shapes.specs.Handed.{handed, has_come, node_of}
use Rattle.cfarm_sim_svg_shapes.specs.Marks.{mark_of, mark_tail}
use Rattle.cfarm_sim_svg_shapes.specs.Places.{arrow_from, guides_end, labels_at, lane_at, row_at}
use Rattle.cfarm_sim_svg_shapes.specs.declared.origin.Origin.{Origin}

-- where the message with this number was sent, from 1
abbrev pub numbered_origin : List Origin → ℕ → Option Origin
numbered_origin sent k = if k == 0 then None else slice_get sent (k - 1)

-- where the message of a delivery was sent
abbrev pub origin_of : List Origin → Command → Option Origin
origin_of sent (Offer i) = None
origin_of sent (Start i) = None
origin_of sent (Propose i) = None
origin_of sent (Restart i) = None
origin_of sent (Deliver i k) = numbered_origin sent k

-- nothing came of what was handed over: no answer, and nothing was learned or noted
abbrev pub is_dashed : Told → Bool → Bool
is_dashed told.Offered come = false
is_dashed told.Restarted come = false
is_dashed told.Nothing come = not come
is_dashed told.Refused come = false
is_dashed (told.Learned v) come = false
is_dashed (told.Sent number node message) come = false

-- the arrow of a delivery
abbrev pub arrow_part : Option Origin → ℕ → ℕ → Bool → List ℕ
arrow_part None node row dashed = []
arrow_part (Some origin) node row dashed = arrow_text (arrow_from origin node row) dashed

-- the label of a row
abbrev pub label_at : ℕ → ℕ → List ℕ → List ℕ
label_at nodes row line = label_text (labels_at nodes) (row_at row + 4) line

-- a row: a faint line, the arrow, the mark, and what is told
abbrev pub row_text : ℕ → ℕ → List Origin → Command → Told → Bool → List ℕ
row_text nodes row sent c told come =
    guide_text (lane_at (node_of c)) (row_at row) (guides_end nodes)
    ++ (arrow_part (origin_of sent c) (node_of c) row (is_dashed told come)
    ++ (mark_text (lane_at (node_of c)) (row_at row) (mark_tail (mark_of c told))
    ++ label_at nodes row (told_text told)))

-- the message that a call sends
abbrev pub sent_by : ℕ → Told → List Origin
sent_by row told.Offered = []
sent_by row told.Restarted = []
sent_by row told.Nothing = []
sent_by row told.Refused = []
sent_by row (told.Learned v) = []
sent_by row (told.Sent number node message) = record { node = node; row = row } ∷ []

-- where the messages of the calls were sent, the oldest first
abbrev pub origins : Sizes → List NodeCall → List Origin
origins q [] = []
origins q (k ∷ ks) = origins q ks ++ sent_by (length ks) (told_by (played (start q) ks) k)

-- the rows of commands that are done by these calls, of both of which the newest stands first
abbrev pub rows : Sizes → List Command → List NodeCall → List ℕ
rows q [] ks = []
rows q (c ∷ cs) [] = []
rows q (c ∷ cs) (k ∷ ks) =
    rows q cs ks
    ++ row_text q.nodes (length ks) (origins q ks) c (told_by (played (start q) ks) k)
    (has_come ((played (start q) (k ∷ ks)).nodes (node_of c)) (handed (played (start q) ks).sent c))
