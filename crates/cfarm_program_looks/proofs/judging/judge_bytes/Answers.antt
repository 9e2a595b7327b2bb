-- Why `judge_bytes` meets its clause `does`.
use Rattle.std.proofs.Common.{refl, inl, inr}
use Rattle.cfarm_program_status.specs.Telling.{quiet}
use Rattle.cfarm_program_status.proofs.Answering.{told_by}
use Rattle.cfarm_judge.specs.Lines.{judge_line}
use Rattle.cfarm_program_looks.specs.Judging.{judge_fault}
use Rattle.cfarm_program_looks.proofs.judging.judge_bytes.Goals as goal

pub returns-in-Ok-clause-does : goal.returns-in-Ok-clause-does
returns-in-Ok-clause-does g c = rw (← c.as_bytes.ensures.value) (quiet, inl (c.in-Ok.ensures.judged, refl), (refl, refl))

pub returns-in-Err-clause-does : goal.returns-in-Err-clause-does
returns-in-Err-clause-does g c =
    let fault = c.in-Err.fault in
    let same = c.as_bytes.ensures.value in
    let line = judge_line fault c.args.name.now c.args.path.now in (
      judge_fault c.args.name.now c.args.path.now fault,
      inr (
        fault,
        rw (← same) c.in-Err.ensures.refused,
        rw (← same) c.in-Err.ensures.printed,
        refl,
      ),
      told_by _ _ line _ _ _ c.status-status.ensures (c.tell.ensures.told line refl),
    )
