-- Why `play_behind` meets its clauses `made` and `offered`.
use Rattle.std.proofs.Common.{◌≡◌, true, IsSome}
use Rattle.farm_nodes_turn_function.specs.Turned.{HasLearned}
use Rattle.farm_nodes_turn_function.proofs.Inputs.{has_input, made_from, on_ok}
use Rattle.farm_nodes_turn_function.proofs.in_pass.play_behind.Goals as goal

pub returns-clause-made : goal.returns-clause-made
returns-clause-made g c =
    made_from c.learned_output-input.result c.args.before.now c.args.seat.now c.play.new.seat c.learned_output-input.ensures c.play.ensures.made

pub returns-clause-offered : goal.returns-clause-offered
returns-clause-offered g c =
    on_ok c.play.result (IsSome c.learned_output-input.result → c.play.new.seat.words.node.kept.offered ≡ true)
    (HasLearned c.args.before.now → c.play.new.seat.words.node.kept.offered ≡ true)
    (λ offered learned. offered (has_input c.learned_output-input.result c.args.before.now c.learned_output-input.ensures learned))
    c.play.ensures.offered
