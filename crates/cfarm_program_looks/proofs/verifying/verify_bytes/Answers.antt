-- Why `verify_bytes` meets its clause `does`.
use Rattle.std.proofs.Common.{refl, inl, inr}
use Rattle.cfarm_program_status.specs.Telling.{quiet}
use Rattle.cfarm_program_status.proofs.Answering.{told_by}
use Rattle.cfarm_verify.specs.Lines.{verify_line}
use Rattle.cfarm_program_looks.specs.Verifying.{verify_fault}
use Rattle.cfarm_program_looks.proofs.verifying.verify_bytes.Goals as goal

pub returns-in-Ok-clause-does : goal.returns-in-Ok-clause-does
returns-in-Ok-clause-does g c = (quiet, inl (c.in-Ok.ensures.verified, refl), (refl, refl))

pub returns-in-Err-clause-does : goal.returns-in-Err-clause-does
returns-in-Err-clause-does g c =
    let fault = c.in-Err.fault in
    let line = verify_line fault c.args.claim.program_path.now c.args.claim.path.now in (
      verify_fault c.args.claim.program_path.now c.args.claim.path.now fault,
      inr (fault, c.in-Err.ensures.refused, c.in-Err.ensures.printed, refl),
      told_by _ _ line _ _ _ c.status-status.ensures (c.tell.ensures.told line refl),
    )
