-- What stands outside of the tags of a drawing.
use Rattle.std.proofs.Common.{◌≡◌, ℕ, zero, suc, ◌+◌, ◌==◌, ◌&&◌, Bool, true, false, List, [], ◌∷◌, ◌++◌, Option, Some, None, length, refl, sym, ap, ◌∙◌, append_assoc, append-nil}
use Rattle.std.specs.Prelude.{codes}
use Rattle.std.specs.Fmt.{decimal}
use Rattle.paxos_core_world.specs.Quorum.{Sizes}
use Rattle.paxos_core.specs.Schedule.{NodeCall, played}
use Rattle.cfarm_sim.specs.Plays.{AreDone, closing, printed}
use Rattle.cfarm_sim.specs.Rooms.{start, told_by}
use Rattle.cfarm_sim.specs.Told.{told_text}
use Rattle.cfarm_sim.specs.declared.told.Told.{Told}
use Rattle.cfarm_sim_lines.specs.declared.command.Command.{Command}
use Rattle.cfarm_sim_svg_shapes.specs.Elements.{arrow_tail, arrow_text, guide_text, label_text, lane_text, mark_text}
use Rattle.cfarm_sim_svg_shapes.specs.Frame.{foot_text, head_text, lanes_text, opening_text}
use Rattle.cfarm_sim_svg_shapes.specs.Handed.{handed, has_come, node_of}
use Rattle.cfarm_sim_svg_shapes.specs.Labels.{LabelsAreLines, kept_of, outside, turn}
use Rattle.cfarm_sim_svg_shapes.specs.Marks.{mark_of, mark_tail, name_tail}
use Rattle.cfarm_sim_svg_shapes.specs.Places.{arrow_from, guides_end, height_of, labels_at, lane_at, lanes_end, row_at, width_of}
use Rattle.cfarm_sim_svg_shapes.specs.Rows.{arrow_part, is_dashed, label_at, origin_of, origins, row_text, rows}
use Rattle.cfarm_sim_svg_shapes.specs.declared.elements.Arrow.{Arrow}
use Rattle.cfarm_sim_svg_shapes.specs.declared.marks.Mark.{Mark}
use Rattle.cfarm_sim_svg_shapes.specs.declared.marks.Mark.TheVariants.{Ring, Disk, Cross, Square, Dot}
use Rattle.cfarm_sim_svg_shapes.specs.declared.origin.Origin.{Origin}
use Rattle.cfarm_sim_svg_shapes.proofs.Plain.{all_plain, and_parts, closing_plain, decimal_passes, passes, pick, told_plain, within}

-- the bytes behind others
outside_append : (w : Bool) (xs ys : List ℕ) → outside w (xs ++ ys) ≡ outside w xs ++ outside (within w xs) ys
outside_append w [] ys = refl
outside_append w (b ∷ bs) ys =
    ap (λ l. kept_of w b ++ l) (outside_append (turn w b) bs ys) ∙ sym (append_assoc (kept_of w b) (outside (turn w b) bs) (outside (within (turn w b) bs) ys))

within_append : (w : Bool) (xs ys : List ℕ) → within w (xs ++ ys) ≡ within (within w xs) ys
within_append w [] ys = refl
within_append w (b ∷ bs) ys = within_append (turn w b) bs ys

-- bytes that begin outside of tags end there, and leave this text
abbrev Says : List ℕ → List ℕ → Type 0
Says xs text = (outside false xs ≡ text) × (within false xs ≡ false)

says_append : (xs ys s t : List ℕ) → Says xs s → Says ys t → Says (xs ++ ys) (s ++ t)
says_append xs ys s t p q = (
  outside_append false xs ys ∙ (λ i. p.0 i ++ outside (p.1 i) ys) ∙ ap (λ l. s ++ l) q.0,
  within_append false xs ys ∙ ap (λ w. within w ys) p.1 ∙ q.1,
)

-- ---- words with numbers behind them

abbrev Part : Type 0
Part = List ℕ × ℕ

abbrev tag : List Part → List ℕ → List ℕ
tag [] end = end
tag (p ∷ ps) end = p.0 ++ (decimal p.1 ++ tag ps end)

abbrev is_nil : List ℕ → Bool
is_nil [] = true
is_nil (x ∷ xs) = false

nil_is : (xs : List ℕ) → is_nil xs ≡ true → xs ≡ []
nil_is [] e = refl
nil_is (x ∷ xs) e = absurd (cc)

-- behind the words and numbers one stands within a tag
abbrev is_front : Bool → List Part → Bool
is_front w [] = w
is_front w (p ∷ ps) = is_nil (outside w p.0) && (within w p.0 && is_front true ps)

-- what stands behind them alone is left
abbrev Leaves : Bool → List ℕ → List ℕ → Type 0
Leaves w xs end = (outside w xs ≡ outside true end) × (within w xs ≡ within true end)

front : (w : Bool) (parts : List Part) (end : List ℕ) → is_front w parts ≡ true → Leaves w (tag parts end) end
front w [] end e = (ap (λ v. outside v end) e, ap (λ v. within v end) e)
front w (p ∷ ps) end e =
    let first = and_parts (is_nil (outside w p.0)) (within w p.0 && is_front true ps) e in
    let second = and_parts (within w p.0) (is_front true ps) first.1 in
    let rest = tag ps end in
    let more = front true ps end second.1 in
    let digits = decimal_passes p.1 in (
      outside_append w p.0 (decimal p.1 ++ rest) ∙ (λ i. nil_is (outside w p.0) first.0 i ++ outside (second.0 i) (decimal p.1 ++ rest))
          ∙ outside_append true (decimal p.1) rest ∙ (λ i. digits.in_tag i ++ outside (digits.stays i) rest) ∙ more.0,
      within_append w p.0 (decimal p.1 ++ rest) ∙ (λ i. within (second.0 i) (decimal p.1 ++ rest))
          ∙ within_append true (decimal p.1) rest ∙ ap (λ v. within v rest) digits.stays ∙ more.1,
    )

-- ---- elements

-- the end of a tag
abbrev Closes : List ℕ → Type 0
Closes end = (outside true end ≡ []) × (within true end ≡ false)

guide_says : (x y end : ℕ) → Says (guide_text x y end) []
guide_says x y end =
    front false ((codes "<path d=\"M", x) ∷ (codes " ", y) ∷ (codes "H", end) ∷ []) (codes "\" stroke=\"gainsboro\"/>") refl

mark_says : (x y : ℕ) (tail : List ℕ) → Closes tail → Says (mark_text x y tail) []
mark_says x y tail ends =
    let f = front false ((codes "<path d=\"M", x) ∷ (codes " ", y) ∷ []) tail refl in
    (f.0 ∙ ends.0, f.1 ∙ ends.1)

tail_closes : (m : Mark) → Closes (mark_tail m)
tail_closes Ring = (refl, refl)
tail_closes Disk = (refl, refl)
tail_closes Cross = (refl, refl)
tail_closes Square = (refl, refl)
tail_closes Dot = (refl, refl)

name_closes : (n : ℕ) → Closes (name_tail n)
name_closes n =
    pick Closes (n == 0) _ _ (refl, refl) (pick Closes (n == 1) _ _ (refl, refl) (pick Closes (n == 2) _ _ (refl, refl)
    (pick Closes (n == 3) _ _ (refl, refl) (pick Closes (n == 4) _ _ (refl, refl) (pick Closes (n == 5) _ _ (refl, refl) (refl, refl))))))

arrow_closes : (dashed : Bool) → Closes (arrow_tail dashed)
arrow_closes true = (refl, refl)
arrow_closes false = (refl, refl)

arrow_says : (a : Arrow) (dashed : Bool) → Says (arrow_text a dashed) []
arrow_says a dashed =
    let ends = arrow_closes dashed in
    let f = front false ((codes "<path d=\"M", a.from_x) ∷ (codes " ", a.from_y) ∷ (codes "Q", a.over_x) ∷ (codes " ", a.over_y) ∷ (codes " ", a.to_x) ∷ (codes " ", a.to_y) ∷ [])
    (arrow_tail dashed) refl in
    (f.0 ∙ ends.0, f.1 ∙ ends.1)

way_says : (o : Option Origin) (node row : ℕ) (dashed : Bool) → Says (arrow_part o node row dashed) []
way_says None node row dashed = (refl, refl)
way_says (Some origin) node row dashed = arrow_says (arrow_from origin node row) dashed

lane_says : (x end : ℕ) → Says (lane_text x end) []
lane_says x end = front false ((codes "<path\nd=\"M", x) ∷ (codes " 44V", end) ∷ []) (codes "\" stroke=\"silver\"/>") refl

label_says : (x y : ℕ) (line : List ℕ) → all_plain line ≡ true → Says (label_text x y line) line
label_says x y line plain =
    let p = passes line plain in
    let f = front false ((codes "<text x=\"", x) ∷ (codes "\" y=\"", y) ∷ []) (codes "\" fill=\"black\" stroke=\"none\">" ++ (line ++ codes "</text>")) refl in (
      f.0 ∙ outside_append false line (codes "</text>") ∙ (λ i. p.text i ++ outside (p.out i) (codes "</text>")) ∙ append-nil line,
      f.1 ∙ within_append false line (codes "</text>") ∙ ap (λ w. within w (codes "</text>")) p.out,
    )

-- ---- rows

row_says : (nodes row : ℕ) (sent : List Origin) (c : Command) (t : Told) (come : Bool) → Says (row_text nodes row sent c t come) (told_text t)
row_says nodes row sent c t come =
    let x = lane_at (node_of c) in
    let y = row_at row in
    let guide = guide_text x y (guides_end nodes) in
    let arrow = arrow_part (origin_of sent c) (node_of c) row (is_dashed t come) in
    let mark = mark_text x y (mark_tail (mark_of c t)) in
    let label = label_at nodes row (told_text t) in
    says_append guide (arrow ++ (mark ++ label)) [] (told_text t) (guide_says x y (guides_end nodes))
    (says_append arrow (mark ++ label) [] (told_text t) (way_says (origin_of sent c) (node_of c) row (is_dashed t come))
    (says_append mark label [] (told_text t) (mark_says x y (mark_tail (mark_of c t)) (tail_closes (mark_of c t)))
    (label_says (labels_at nodes) (row_at row + 4) (told_text t) (told_plain t))))

rows_say : (q : Sizes) (commands : List Command) (calls : List NodeCall) → AreDone q commands calls → Says (rows q commands calls) (printed q calls)
rows_say q [] [] done = (refl, refl)
rows_say q [] (k ∷ ks) done = absurd done
rows_say q (c ∷ cs) [] done = absurd done
rows_say q (c ∷ cs) (k ∷ ks) done =
    let told = told_by (played (start q) ks) k in
    let come = has_come ((played (start q) (k ∷ ks)).nodes (node_of c)) (handed (played (start q) ks).sent c) in
    says_append (rows q cs ks) (row_text q.nodes (length ks) (origins q ks) c told come) (printed q ks) (told_text told)
    (rows_say q cs ks done.0) (row_says q.nodes (length ks) (origins q ks) c told come)

-- ---- the whole

opening_says : (w h : ℕ) → Says (opening_text w h) []
opening_says w h =
    front false (
    (codes "<svg xmlns=\"http://www.w3.org/2000/svg\" width=\"", w)
    ∷ (codes "\" height=\"", h)
    ∷ (codes "\"\nfont-family=\"monospace\" font-size=\"12\" fill=\"none\" stroke=\"black\"><marker id=\"a\" markerWidth=\"9\" markerHeight=\"8\" refX=\"12\" refY=\"4\" orient=\"auto\"><path d=\"M0 0L9 4L0 8z\" fill=\"black\"/></marker><path d=\"M0 0H", w)
    ∷ (codes "V", h)
    ∷ []
    )
    (codes "H0z\" fill=\"white\"/>") refl

lanes_say : (n end : ℕ) → Says (lanes_text n end) []
lanes_say zero end = (refl, refl)
lanes_say (suc n) end =
    let lane = lane_text (lane_at n) end in
    let name = mark_text (lane_at n) 16 (name_tail n) in
    says_append (lanes_text n end) (lane ++ name) [] [] (lanes_say n end)
    (says_append lane name [] [] (lane_says (lane_at n) end) (mark_says (lane_at n) 16 (name_tail n) (name_closes n)))

head_says : (nodes count : ℕ) → Says (head_text nodes count) []
head_says nodes count =
    says_append (opening_text (width_of nodes) (height_of count)) (lanes_text nodes (lanes_end count)) [] []
    (opening_says (width_of nodes) (height_of count)) (lanes_say nodes (lanes_end count))

foot_says : (nodes count : ℕ) (line : List ℕ) → all_plain line ≡ true → Says (foot_text nodes count line) (line ++ [])
foot_says nodes count line plain =
    says_append (label_at nodes count line) (codes "</svg>") line [] (label_says (labels_at nodes) (row_at count + 4) line plain) (refl, refl)

pub labels_are_lines : LabelsAreLines
labels_are_lines q commands calls done =
    let last = closing q (played (start q) calls) in
    let body = rows q commands calls in
    let foot = foot_text q.nodes (length calls) last in
    let whole = says_append (head_text q.nodes (length calls)) (body ++ foot) [] (printed q calls ++ (last ++ [])) (head_says q.nodes (length calls))
    (says_append body foot (printed q calls) (last ++ []) (rows_say q commands calls done)
    (foot_says q.nodes (length calls) last (closing_plain q (played (start q) calls)))) in
    whole.0 ∙ ap (λ l. printed q calls ++ l) (append-nil last)
