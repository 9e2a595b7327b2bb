-- Why `drawing_of` meets its contract.
use Rattle.std.proofs.Common.{◌++◌, ap, ◌∙◌}
use Rattle.std.specs.String.{string_bytes}
use Rattle.cfarm_sim_svg.proofs.Ending.{joined}
use Rattle.cfarm_sim_svg.proofs.drawing.drawing_of.Goals as goal

pub returns : goal.returns
returns c =
    joined c.args.played.now c.count-nodes.result (string_bytes c.in_ok-text.text) (string_bytes c.push_str.new.self) (string_bytes c.add_last.new.text)
    c.count-nodes.ensures.count c.in_ok-text.ensures (c.in_ok-push_str.ensures.bytes ∙ ap (λ l. string_bytes c.in_ok-text.text ++ l) c.as_str.ensures.value) c.in_ok-add_last.ensures
