-- Why `function_held` meets its contract.
use Rattle.std.proofs.Common.{subst}
use Rattle.c_program.specs.Trees as T
use Rattle.c_program.specs.Views.{actions_tree}
use Rattle.cminor_lowering.specs.Held.{IsHeld}
use Rattle.cminor_lowering.proofs.Rows.{from_each}
use Rattle.cminor_lowering.proofs.held.function_held.Goals as goal

pub returns : goal.returns
returns c =
    subst (λ xs. IsHeld (T.Sequence (actions_tree xs))) c.as_slice-body.ensures
    (c.has_length.ensures, from_each c.as_slice-body.result.now c.actions_held.ensures)
