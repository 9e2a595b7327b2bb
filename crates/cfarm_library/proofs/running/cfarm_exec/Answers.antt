-- What was put is what the command comes to.
use Rattle.std.proofs.Common.{subst}
use Rattle.std.proofs.lemmas.Int.{to_z-of_z}
use Rattle.std.specs.Int.{w32}
use Rattle.cfarm_library_answers.specs.Outcomes.{Executed}
use Rattle.cfarm_library_answers.specs.Answered.{Gives}
use Rattle.cfarm_library.specs.Flags.{given}
use Rattle.cfarm_library.proofs.Carried.{carried, refused}
use Rattle.cfarm_library.proofs.running.cfarm_exec.Goals as goal

pub returns-then-is_long : goal.returns-then-is_long
returns-then-is_long c = refused _ _ _ _ _ _ c.put.ensures.status c.put.ensures.bytes c.put.ensures.written (Executed c.args.program.now c.args.limit (given c.args.ends c.args.value)) c.no_memory.ensures

pub returns : goal.returns
returns c =
    let passed = subst (λ t. Gives (Executed t c.args.limit c.expected_of.result) c.exec.result) c.passed.ensures c.exec.ensures in
    let expected = subst (λ v. Gives (Executed c.args.program.now c.args.limit v) c.exec.result) c.expected_of.ensures passed in
    let answered = subst (λ v. Gives (Executed c.args.program.now c.args.limit (given c.args.ends v)) c.exec.result) (to_z-of_z w32 c.args.value c.ranges.value) expected in
    carried _ _ _ _ _ _ c.put-2.ensures.status c.put-2.ensures.bytes c.put-2.ensures.written (Executed c.args.program.now c.args.limit (given c.args.ends c.args.value)) answered
