-- What was put is what the command comes to.
use Rattle.std.proofs.Common.{subst}
use Rattle.cfarm_library_answers.specs.Answered.{Gives}
use Rattle.cfarm_library_answers.specs.Outcomes.{Proven}
use Rattle.cfarm_library.proofs.Carried.{carried, refused}
use Rattle.cfarm_library.proofs.looking.cfarm_verify.Goals as goal

pub returns-then-is_long : goal.returns-then-is_long
returns-then-is_long c = refused _ _ _ _ _ _ c.put.ensures.status c.put.ensures.bytes c.put.ensures.written (Proven c.args.text.now c.args.program.now c.args.bundle.now) c.no_memory.ensures

pub returns : goal.returns
returns c =
    let text = c.args.text.now in
    let program = c.args.program.now in
    let first = subst (λ t. Gives (Proven t c.passed-2.result.now c.passed-3.result.now) c.verify.result) c.passed.ensures c.verify.ensures in
    let second = subst (λ p. Gives (Proven text p c.passed-3.result.now) c.verify.result) c.passed-2.ensures first in
    let answered = subst (λ b. Gives (Proven text program b) c.verify.result) c.passed-3.ensures second in
    carried _ _ _ _ _ _ c.put-2.ensures.status c.put-2.ensures.bytes c.put-2.ensures.written (Proven text program c.args.bundle.now) answered
