-- The labels of a drawing: what stands outside of its tags (XML 1.0, sections 2.4 and 3.1).
use Rattle.std.specs.Prelude.{◌≡◌, ℕ, ◌==◌, ◌||◌, if◌then◌else◌, Bool, true, false, List, [], ◌∷◌, ◌++◌}
use Rattle.paxos_core_world.specs.Quorum.{Sizes}
use Rattle.paxos_core.specs.Schedule.{NodeCall, played}
use Rattle.cfarm_sim.specs.Plays.{AreDone, closing, printed}
use Rattle.cfarm_sim.specs.Rooms.{start}
use Rattle.cfarm_sim_lines.specs.declared.command.Command.{Command}
use Rattle.cfarm_sim_svg_shapes.specs.Frame.{drawing}

-- a tag begins with `<`, and a reference, of which labels have none, with `&`
abbrev pub opens : ℕ → Bool
opens b = (b == 60) || (b == 38)

-- after the byte, where one stands within a tag or not
abbrev pub turn : Bool → ℕ → Bool
turn true b = if b == 62 then false else true
turn false b = opens b

-- the byte, where it stands in no tag
abbrev pub kept_of : Bool → ℕ → List ℕ
kept_of true b = []
kept_of false b = if opens b then [] else b ∷ []

-- what stands outside of tags, of bytes that begin within one or not
abbrev pub outside : Bool → List ℕ → List ℕ
outside within [] = []
outside within (b ∷ bs) = kept_of within b ++ outside (turn within b) bs

-- the labels of a drawing in their order
abbrev pub labels : List ℕ → List ℕ
labels bytes = outside false bytes

-- The labels of the drawing of commands that are done by these calls are the lines that `sim` prints of them, byte for byte.
abbrev pub LabelsAreLines : Type 0
LabelsAreLines =
    (q : Sizes) (commands : List Command) (calls : List NodeCall) → AreDone q commands calls
    → labels (drawing q commands calls) ≡ printed q calls ++ closing q (played (start q) calls)
