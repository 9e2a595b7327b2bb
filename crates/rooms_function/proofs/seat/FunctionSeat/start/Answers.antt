-- Why `start` meets its clause `acted`.
use Rattle.std.proofs.Common.{◌≡◌, arith}
use Rattle.rooms_function.proofs.seat.FunctionSeat.start.Goals as goal

pub returns-in_default-clause-acted : goal.returns-in_default-clause-acted
returns-in_default-clause-acted c = let fourth : c.args.pass ≡ 4 = omega arith in rw fourth (rw (← c.self.view_is) c.start-in_default.ensures.acted)
