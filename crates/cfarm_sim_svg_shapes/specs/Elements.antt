-- The elements of a drawing (SVG 1.1, sections 8.2 and 10.4).
use Rattle.std.specs.Prelude.{ℕ, List, ◌++◌, Bool, true, false, codes}
use Rattle.std.specs.Fmt.{decimal}
use Rattle.cfarm_sim_svg_shapes.specs.declared.elements.Arrow.{Arrow}

-- a faint line from a place to the label of its row
abbrev pub guide_text : ℕ → ℕ → ℕ → List ℕ
guide_text x y end =
    codes "<path d=\"M" ++ (decimal x ++ (codes " " ++ (decimal y ++ (codes "H" ++ (decimal end ++ codes "\" stroke=\"gainsboro\"/>")))))

-- the end of an arrow, dashed where nothing came of the message
abbrev pub arrow_tail : Bool → List ℕ
arrow_tail true = codes "\" stroke=\"gray\" stroke-dasharray=\"5 4\" marker-end=\"url(#a)\"/>"
arrow_tail false = codes "\" marker-end=\"url(#a)\"/>"

-- the way of an arrow, with this end
abbrev pub way_text : Arrow → List ℕ → List ℕ
way_text a tail =
    codes "<path d=\"M" ++ (decimal a.from_x ++ (codes " " ++ (decimal a.from_y ++ (codes "Q" ++ (decimal a.over_x ++ (codes " " ++ (decimal a.over_y
    ++ (codes " " ++ (decimal a.to_x ++ (codes " " ++ (decimal a.to_y ++ tail)))))))))))

abbrev pub arrow_text : Arrow → Bool → List ℕ
arrow_text a is_dashed = way_text a (arrow_tail is_dashed)

-- what is drawn from a place on
abbrev pub mark_text : ℕ → ℕ → List ℕ → List ℕ
mark_text x y tail = codes "<path d=\"M" ++ (decimal x ++ (codes " " ++ (decimal y ++ tail)))

-- a line, with its end
abbrev pub label_text : ℕ → ℕ → List ℕ → List ℕ
label_text x y line =
    codes "<text x=\"" ++ (decimal x ++ (codes "\" y=\"" ++ (decimal y ++ (codes "\" fill=\"black\" stroke=\"none\">" ++ (line ++ codes "</text>")))))

-- the lane of a node
abbrev pub lane_text : ℕ → ℕ → List ℕ
lane_text x end = codes "<path\nd=\"M" ++ (decimal x ++ (codes " 44V" ++ (decimal end ++ codes "\" stroke=\"silver\"/>")))
