-- What was put is what the command comes to.
use Rattle.std.proofs.Common.{subst}
use Rattle.cfarm_library_answers.specs.Answered.{Gives}
use Rattle.cfarm_library_answers.specs.Outcomes.{Texted}
use Rattle.cfarm_library.proofs.Carried.{carried, refused}
use Rattle.cfarm_library.proofs.looking.cfarm_show.Goals as goal

pub returns-then-is_long : goal.returns-then-is_long
returns-then-is_long c = refused _ _ _ _ _ _ c.put.ensures.status c.put.ensures.bytes c.put.ensures.written (Texted c.args.program.now) c.no_memory.ensures

pub returns : goal.returns
returns c =
    let answered = subst (λ t. Gives (Texted t) c.show.result) c.passed.ensures c.show.ensures in
    carried _ _ _ _ _ _ c.put-2.ensures.status c.put-2.ensures.bytes c.put-2.ensures.written (Texted c.args.program.now) answered
