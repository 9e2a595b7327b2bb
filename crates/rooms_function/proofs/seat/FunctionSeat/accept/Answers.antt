-- Why `accept` meets its clauses `answer` and `acted`.
use Rattle.std.proofs.Common.{◌≡◌, arith}
use Rattle.rooms_function.proofs.seat.FunctionSeat.accept.Goals as goal

pub returns-in_default-clause-answer : goal.returns-in_default-clause-answer
returns-in_default-clause-answer c = let fourth : c.args.pass ≡ 4 = omega arith in rw fourth (rw (← c.self.view_is) c.accept-in_default.ensures.answer)

pub returns-in_default-clause-acted : goal.returns-in_default-clause-acted
returns-in_default-clause-acted c = let fourth : c.args.pass ≡ 4 = omega arith in rw fourth (rw (← c.self.view_is) c.accept-in_default.ensures.acted)
