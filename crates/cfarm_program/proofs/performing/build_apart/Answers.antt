-- Why `build_apart` meets its clause `does`.
use Rattle.std.specs.Prelude.{false}
use Rattle.std.proofs.Common.{refl, inl, inr, ◌∙◌}
use Rattle.cfarm_build.specs.Answers.{building_line}
use Rattle.cfarm_program.specs.Built.{building_fault}
use Rattle.cfarm_program_status.specs.Telling.{quiet}
use Rattle.cfarm_program_status.proofs.Answering.{among}
use Rattle.cfarm_program.proofs.performing.build_apart.Goals as goal

pub returns-in-Ok-clause-does : goal.returns-in-Ok-clause-does
returns-in-Ok-clause-does g c = (quiet, inl (c.in-Ok.ensures.built, refl), (refl, refl))

pub returns-in-Err-clause-does : goal.returns-in-Err-clause-does
returns-in-Err-clause-does g c =
    let fault = c.in-Err.fault in (
      building_fault fault,
      inr (fault, c.in-Err.ensures.refused, refl),
      among c.args.is_seen false _ _ _ (building_line fault) _ _ _ c.status-status.ensures (λ unseen. refl)
          (λ unseen. c.as_str.ensures.value ∙ c.of_build-behind.ensures unseen) (c.tell_among-told.ensures.told (building_line fault) refl),
    )
