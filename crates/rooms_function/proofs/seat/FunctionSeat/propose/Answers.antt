-- Why `propose` meets its clauses `acted` and `answer`.
use Rattle.std.proofs.Common.{◌≡◌, arith}
use Rattle.rooms_function.proofs.seat.FunctionSeat.propose.Goals as goal

pub returns-in_default-clause-acted : goal.returns-in_default-clause-acted
returns-in_default-clause-acted c = let fourth : c.args.pass ≡ 4 = omega arith in rw fourth (rw (← c.self.view_is) c.propose-in_default.ensures.acted)

pub returns-in_default-clause-answer : goal.returns-in_default-clause-answer
returns-in_default-clause-answer c = let fourth : c.args.pass ≡ 4 = omega arith in rw fourth (rw (← c.self.view_is) c.propose-in_default.ensures.answer)
