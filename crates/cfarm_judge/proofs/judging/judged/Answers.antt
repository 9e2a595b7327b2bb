-- The pass is told by the first byte, and decides.
use Rattle.cfarm_judge.proofs.Bytes.{not_begun, not_judged}
use Rattle.cfarm_judge.proofs.judging.judged.Goals as goal

pub returns-in-Err-clause-refused : goal.returns-in-Err-clause-refused
returns-in-Err-clause-refused c = λ memory. not_begun c.args.bytes.now c.in-Err.fault c.in-Err.ensures.none

pub returns-in-Err-passed_at-clause-refused : goal.returns-in-Err-passed_at-clause-refused
returns-in-Err-passed_at-clause-refused c =
    not_judged c.args.bytes.now c.in-Ok.pass c.in-Ok.ensures.found c.args.function.now c.in-Err-passed_at.fault c.in-Err-passed_at.ensures.refused
