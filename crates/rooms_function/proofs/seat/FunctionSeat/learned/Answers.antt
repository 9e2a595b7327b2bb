-- Why `learned` meets its clause `there`.
use Rattle.std.proofs.Common.{◌≡◌, arith}
use Rattle.rooms_function.proofs.seat.FunctionSeat.learned.Goals as goal

pub returns-in_default-clause-there : goal.returns-in_default-clause-there
returns-in_default-clause-there c = let fourth : c.args.pass ≡ 4 = omega arith in rw fourth (rw (← c.self.view_is) c.learned-in_default.ensures.there)
