-- Why `answer_of` meets its clauses `answer`, `refused` and `only`.
use Rattle.std.specs.String.{string_bytes}
use Rattle.cfarm_verify.specs.Told.{IsUnverified, IsWant}
use Rattle.cfarm_library_verify.proofs.Answered.{answer_is, fault_is}
use Rattle.cfarm_library_verify.proofs.verifying.answer_of.Goals as goal

pub returns-clause-answer : goal.returns-clause-answer
returns-clause-answer c =
    answer_is string_bytes c.args.text.now c.args.program.now c.args.bundle.now c.args.found c.args.digits c.line_for.result c.line_for.ensures
    c.requires.digits c.requires.verified

pub returns-clause-refused : goal.returns-clause-refused
returns-clause-refused c =
    fault_is string_bytes (IsUnverified c.args.text.now c.args.program.now c.args.bundle.now) tt c.args.found c.args.digits c.line_for.result c.line_for.ensures
    c.requires.refused

pub returns-clause-only : goal.returns-clause-only
returns-clause-only c = λ n is.
    fault_is string_bytes IsWant tt c.args.found c.args.digits c.line_for.result c.line_for.ensures (c.requires.only n is)
