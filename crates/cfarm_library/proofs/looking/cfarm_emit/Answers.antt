-- What was put is what the command comes to.
use Rattle.std.proofs.Common.{subst}
use Rattle.cfarm_library_answers.specs.Outcomes.{FormedBy}
use Rattle.cfarm_library_answers.specs.Answered.{Gives}
use Rattle.cfarm_library.specs.Flags.{given}
use Rattle.cfarm_library.proofs.Carried.{carried, refused}
use Rattle.cfarm_library.proofs.looking.cfarm_emit.Goals as goal

pub returns-then-is_long : goal.returns-then-is_long
returns-then-is_long c = refused _ _ _ _ _ _ c.put.ensures.status c.put.ensures.bytes c.put.ensures.written (FormedBy c.args.form c.args.text.now (given c.args.drawn c.args.seed)) c.no_memory.ensures

pub returns : goal.returns
returns c =
    let passed = subst (λ t. Gives (FormedBy c.args.form t c.seed_of.result) c.emit_by.result) c.passed.ensures c.emit_by.ensures in
    let answered = subst (λ s. Gives (FormedBy c.args.form c.args.text.now s) c.emit_by.result) c.seed_of.ensures passed in
    carried _ _ _ _ _ _ c.put-2.ensures.status c.put-2.ensures.bytes c.put-2.ensures.written (FormedBy c.args.form c.args.text.now (given c.args.drawn c.args.seed)) answered
