-- What was put is what the command comes to.
use Rattle.std.proofs.Common.{subst}
use Rattle.cfarm_library_answers.specs.Answered.{Gives}
use Rattle.cfarm_library_answers.specs.Outcomes.{Checked}
use Rattle.cfarm_library.proofs.Carried.{carried, refused}
use Rattle.cfarm_library.proofs.running.cfarm_check.Goals as goal

pub returns-then-is_long : goal.returns-then-is_long
returns-then-is_long c = refused _ _ _ _ _ _ c.put.ensures.status c.put.ensures.bytes c.put.ensures.written (Checked c.args.text.now) c.no_memory.ensures

pub returns : goal.returns
returns c =
    let answered = subst (λ t. Gives (Checked t) c.check.result) c.passed.ensures c.check.ensures in
    carried _ _ _ _ _ _ c.put-2.ensures.status c.put-2.ensures.bytes c.put-2.ensures.written (Checked c.args.text.now) answered
