-- Why `run_task` meets its clause `does`, and it may call `read_and_perform`.
use Rattle.std.proofs.Common.{refl, inl, inr}
use Rattle.cfarm_program.proofs.Placing.{keeps_files}
use Rattle.cfarm_program.proofs.running.run_task.Goals as goal

pub returns-in-Some-clause-does : goal.returns-in-Some-clause-does
returns-in-Some-clause-does g c = inl (c.in-Some.mistake, c.in-Some.ensures.some, (keeps_files _ _, refl, c.tell.ensures.told _ refl))

pub read_and_perform-requires-clause-met : goal.read_and_perform-requires-clause-met
read_and_perform-requires-clause-met g c κs within = c.in-None.ensures.none refl

pub returns-in-None-clause-does : goal.returns-in-None-clause-does
returns-in-None-clause-does g c = inr (c.in-None.ensures.none refl, c.read_and_perform.ensures.does)
