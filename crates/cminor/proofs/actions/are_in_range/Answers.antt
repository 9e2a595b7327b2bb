use Rattle.c_program.specs.Views.{actions_tree}
use Rattle.cminor_lowering.specs.Actions.{low_actions}
use Rattle.cminor_lowering.proofs.Pieces.{sequence_fitted}
use Rattle.cminor.proofs.Fitting.{actions_fit}
use Rattle.cminor.proofs.actions.are_in_range.Goals as goal

pub returns : goal.returns
returns c =
    let ss = low_actions c.args.spare (actions_tree c.args.actions.now) in
    actions_fit c.args.spare c.args.actions.now (sequence_fitted 65536 ss c.requires)
