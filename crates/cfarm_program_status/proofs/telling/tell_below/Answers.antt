-- Why `tell_below` meets its clause `told`.
use Rattle.std.specs.Prelude.{[], ◌∷◌}
use Rattle.std.proofs.Common.{refl, inr}
use Rattle.cfarm_program_status.proofs.Answering.{before_line}
use Rattle.cfarm_program_status.proofs.telling.tell_below.Goals as goal

pub returns-in-Ok-clause-told : goal.returns-in-Ok-clause-told
returns-in-Ok-clause-told g c = λ text e.
    before_line _ _ _ (10 ∷ []) text c.args.behind.now c.args.status _ c.in-Ok.ensures.written (c.tell_line.ensures.told text e)

pub returns-in-Err-clause-told : goal.returns-in-Err-clause-told
returns-in-Err-clause-told g c = λ text e. inr (refl, c.in-Err.ensures.failed)
