-- A schedule that was played to its end, and its drawing.
use Rattle.std.proofs.Common.{◌≡◌, ℕ, List, ◌++◌, Option, refl, ap, ◌∙◌, subst, append_assoc}
use Rattle.std.specs.Io.KnownBytes.{Appends}
use Rattle.std.specs.String.{string_bytes}
use Rattle.cfarm_output.specs.Begun.{IsBegun}
use Rattle.cfarm_sim.specs.Plays.{closing}
use Rattle.cfarm_sim.specs.declared.error.ScheduleError.{ScheduleError}
use Rattle.cfarm_sim.specs.declared.error.ScheduleError.TheVariants.{NoMemory, Schedule, Write}
use Rattle.cfarm_sim_svg_shapes.specs.Frame.{drawing, drawing_of, head_text}
use Rattle.cfarm_sim_svg.specs.Drawn.{IsDrawn, IsPartlyDrawn, IsUndrawn}
use Rattle.cfarm_sim_svg.specs.Playing.{IsPlayedOut, IsUnplayed, drawing_by, foot_by}
use Rattle.cfarm_sim_svg.specs.declared.playing.Playing.{Playing}

is_drawing : (text : List ℕ) (p : Playing) (out : IsPlayedOut text p)
    → drawing_by p ≡ drawing out.shown.quorums out.shown.commands out.shown.calls
is_drawing text p out = λ i. drawing_of (out.quorums i).nodes (out.row i) (out.body i) (closing (out.quorums i) (out.room i))

pub drawn_of : (text : List ℕ) (p : Playing) (bytes : List ℕ) (before after : Option (List ℕ)) → IsPlayedOut text p
    → bytes ≡ drawing_by p → Appends before after bytes → IsDrawn text before after
drawn_of text p bytes before after out is more = record {
  shown = out.shown;
  output = subst (λ l. Appends before after l) (is ∙ is_drawing text p out) more;
}

pub partly_of : (text : List ℕ) (p : Playing) (bytes : List ℕ) (before after : Option (List ℕ)) → IsPlayedOut text p
    → bytes ≡ drawing_by p → IsBegun bytes before after → IsPartlyDrawn text before after
partly_of text p bytes before after out is begun = record {
  shown = out.shown;
  output = subst (λ l. IsBegun l before after) (is ∙ is_drawing text p out) begun;
}

-- where nothing was played nothing is printed
pub undrawn_by : (text : List ℕ) (fault : ScheduleError) (known : Option (List ℕ)) → IsUnplayed text fault → IsUndrawn text fault known known
undrawn_by text NoMemory known none = refl
undrawn_by text (Schedule line) known none = (none, refl)
undrawn_by text Write known none = absurd none

-- what is drawn, part by part
pub joined : (p : Playing) (nodes : ℕ) (first second third : List ℕ) → nodes ≡ p.room.quorums.nodes → first ≡ head_text nodes p.row
    → second ≡ first ++ string_bytes p.body → third ≡ second ++ foot_by p → third ≡ drawing_by p
joined p nodes first second third same head body foot =
    foot ∙ ap (λ l. l ++ foot_by p) body ∙ append_assoc first (string_bytes p.body) (foot_by p)
    ∙ (λ i. (head ∙ ap (λ n. head_text n p.row) same) i ++ (string_bytes p.body ++ foot_by p))
