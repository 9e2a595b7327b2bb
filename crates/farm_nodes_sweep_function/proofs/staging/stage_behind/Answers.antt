-- Why `stage_behind` meets its clauses `input`, `offered` and `refused`.
use Rattle.std.proofs.Common.{◌≡◌, true}
use Rattle.std.specs.Arc.{arc_value}
use Rattle.farm_nodes_sweep_function.proofs.Told.{input_learned, offered_learned, refused_learned}
use Rattle.farm_nodes_sweep_function.proofs.staging.stage_behind.Goals as goal

pub returns-clause-input : goal.returns-clause-input
returns-clause-input g c = input_learned (λ x. arc_value x) c.stage.result c.learned_output-input.result c.args.before.now c.learned_output-input.ensures c.stage.ensures.input

pub returns-clause-offered : goal.returns-clause-offered
returns-clause-offered g c = offered_learned (c.stage.new.seat.words.node.kept.offered ≡ true) c.stage.result c.learned_output-input.result c.args.before.now c.learned_output-input.ensures c.stage.ensures.offered

pub returns-clause-refused : goal.returns-clause-refused
returns-clause-refused g c = refused_learned g.P.Pass.too_large c.stage.result c.learned_output-input.result c.args.before.now c.learned_output-input.ensures c.stage.ensures.refused
